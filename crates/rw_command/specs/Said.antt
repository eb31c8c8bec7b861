-- What the options of a plan say, and the workers of a sweep.
use Rattle.std.specs.Prelude.{◌≡◌, ◌<◌, ◌^◌, ℕ, List, Some, codes}
use Rattle.std.specs.Str.Parse.{IsNumeral, digits_value, without_leading_plus}
use Rattle.clap.specs.Matches.{first_value, found_of, one_text}
use Rattle.clap.specs.declared.parser.matches.ArgMatches.{ArgMatches}
use Rattle.rw_trace.specs.Words.{Text}

-- the number that digits say; a plus may stand before them
abbrev pub number_said : Text → ℕ
number_said text = digits_value 10 (without_leading_plus text)

-- digits, with a plus before them or none, that say a number of so many bits
abbrev pub SaysNumber : ℕ → Text → Type 0
SaysNumber bits text = IsNumeral 10 (without_leading_plus text) × (number_said text < 2 ^ bits)

-- a number of 32 bits is the one that an option says
abbrev pub IsSaidCount : ArgMatches → Text → ℕ → Type 0
IsSaidCount options name n = (text : Text) → one_text (found_of options) name ≡ Some text
    → SaysNumber 32 text → n ≡ number_said text

-- a number of ticks or bytes is the one that an option says in digits alone, where it names no unit
abbrev pub IsSaidNumber : ArgMatches → Text → ℕ → Type 0
IsSaidNumber options name n = (text : Text) → first_value (found_of options) name ≡ Some text
    → SaysNumber 64 text → n ≡ number_said text

-- a flag has the value that says yes
abbrev pub IsSet : ArgMatches → Text → Type 0
IsSet options name = one_text (found_of options) name ≡ Some (codes "true")
