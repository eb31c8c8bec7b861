-- A run of rows that are read as it goes on: what holds between two pieces, and what the last one comes to.
use Rattle.std.proofs.Common.{◌≡◌, Bool, true, false, ℕ, suc, zero, ◌<◌, ◌≤◌, List, [], ◌∷◌, ◌++◌, ◌⊎◌, Some, None, Ok, refl, sym, ◌∙◌, ap, arith, inl, inr, length, take, get_or}
use Rattle.std.specs.Prelude.{◌==◌, All}
use Rattle.std.proofs.lemmas.Bool.{cases_lt}
use Rattle.std.proofs.lemmas.Bool.Decides.{nat_tests}
use Rattle.std.proofs.lemmas.List.Elements.{All-cons, All-head, All-nil, All-tail}
use Rattle.rw_vt.specs.declared.refusal.Refusal.{Refusal}
use Rattle.rw_vt.specs.declared.refusal.Refusal.TheVariants.{Exhausted, Memory}
use Rattle.rw_trace.specs.declared.Row.{Row}
use Rattle.rw_trace.specs.declared.TraceFault.TheVariants as fault
use Rattle.rw_trace.specs.declared.pieces.RowsFault.{RowsFault}
use Rattle.rw_trace.specs.declared.pieces.RowsFault.TheVariants as refused
use Rattle.rw_trace.specs.Trace.{row_before}
use Rattle.rw_trace.specs.Words.{OrFault}
use Rattle.rw_trace.specs.Pieces.{Ahead, AreAll, ComeFirst, IsRefusal, RiseFrom, last_time, rows_before}
use Rattle.rw_report.specs.Faults.{sim_refusal_of, sim_rows_fault_of}
use Rattle.rw_photo.specs.declared.config.Config.{Config}
use Rattle.rw_report.specs.Streams.{IsExhaustingFirst, IsStreamFault}

-- Rows that rise

pub rise_at : (t : ℕ) (rows : List Row) (i : ℕ) (d : Row) → i < length rows → RiseFrom t rows → last_time t (take i rows) ≤ (get_or rows i d).time
rise_at t [] i d l up = absurd (omega arith)
rise_at t (r ∷ rows) zero d l up = up.0
rise_at t (r ∷ rows) (suc i) d l up = rise_at r.time rows i d (omega arith) up.1

pub rise_take : (t : ℕ) (rows : List Row) (i : ℕ) (d : Row) → i < length rows → RiseFrom t (take i rows) → last_time t (take i rows) ≤ (get_or rows i d).time → RiseFrom t (take (suc i) rows)
rise_take t [] i d l up later = absurd (omega arith)
rise_take t (r ∷ rows) zero d l up later = (later, tt)
rise_take t (r ∷ rows) (suc i) d l up later = (up.0, rise_take r.time rows i d (omega arith) up.1 later)

pub last_take : (t : ℕ) (rows : List Row) (i : ℕ) (d : Row) → i < length rows → last_time t (take (suc i) rows) ≡ (get_or rows i d).time
last_take t [] i d l = absurd (omega arith)
last_take t (r ∷ rows) zero d l = refl
last_take t (r ∷ rows) (suc i) d l = last_take r.time rows i d (omega arith)

pub rise_on : (t : ℕ) (ps qs : List Row) → RiseFrom t ps → RiseFrom (last_time t ps) qs → RiseFrom t (ps ++ qs)
rise_on t [] qs h k = k
rise_on t (p ∷ ps) qs h k = (h.0, rise_on p.time ps qs h.1 k)

pub last_on : (t : ℕ) (ps qs : List Row) → last_time t (ps ++ qs) ≡ last_time (last_time t ps) qs
last_on t [] qs = refl
last_on t (p ∷ ps) qs = last_on p.time ps qs

-- and the two parts of them
pub rise_first : (t : ℕ) (ps qs : List Row) → RiseFrom t (ps ++ qs) → RiseFrom t ps
rise_first t [] qs h = tt
rise_first t (p ∷ ps) qs h = (h.0, rise_first p.time ps qs h.1)

pub rise_behind : (t : ℕ) (ps qs : List Row) → RiseFrom t (ps ++ qs) → RiseFrom (last_time t ps) qs
rise_behind t [] qs h = h
rise_behind t (p ∷ ps) qs h = rise_behind p.time ps qs h.1

-- What is to come

before-both : (ps qs : List Row) (rest : OrFault (List Row)) → rows_before (ps ++ qs) rest ≡ rows_before ps (rows_before qs rest)
before-both [] qs rest = refl
before-both (p ∷ ps) qs rest = ap (row_before p) (before-both ps qs rest)

before-ok : (ps qs : List Row) → rows_before ps (Ok qs) ≡ Ok (ps ++ qs)
before-ok [] qs = refl
before-ok (p ∷ ps) qs = ap (row_before p) (before-ok ps qs)

pub first_none : (a : Ahead) → ComeFirst a [] a
first_none None = tt
first_none (Some all) = refl

pub first_on : (a b c : Ahead) (ps qs : List Row) → ComeFirst a ps b → ComeFirst b qs c → ComeFirst a (ps ++ qs) c
first_on None b c ps qs h k = tt
first_on (Some all) None c ps qs h k = absurd h
first_on (Some all) (Some rest) None ps qs h k = absurd k
first_on (Some all) (Some rest) (Some last) ps qs h k = h ∙ ap (rows_before ps) k ∙ sym (before-both ps qs last)

pub first_end : (a b : Ahead) (ps qs : List Row) → ComeFirst a ps b → AreAll b qs → AreAll a (ps ++ qs)
first_end None b ps qs h k = tt
first_end (Some all) None ps qs h k = absurd h
first_end (Some all) (Some rest) ps qs h k = h ∙ ap (rows_before ps) k ∙ before-ok ps qs

-- Faults

pub rows_fault : (c : Config) (ahead : Ahead) (e : RowsFault) → IsRefusal ahead e → IsStreamFault c ahead (sim_rows_fault_of e)
rows_fault c ahead refused.Read h = tt
rows_fault c ahead (refused.Trace fault.Header) h = h
rows_fault c ahead (refused.Trace (fault.RowLength n)) h = h
rows_fault c ahead (refused.Trace (fault.Number n k)) h = h
rows_fault c ahead (refused.Trace (fault.TimeRange n)) h = h
rows_fault c ahead (refused.Trace (fault.EdgeRange n)) h = h
rows_fault c ahead (refused.Trace (fault.SizeRange n)) h = h
rows_fault c ahead (refused.Trace fault.TooManyRows) h = h
rows_fault c ahead (refused.Trace fault.Memory) h = tt
rows_fault c ahead (refused.Trace (fault.Kind n)) h = h
rows_fault c ahead (refused.Trace (fault.Order n)) h = h

pub run_fault : (c : Config) (ahead : Ahead) (e : Refusal) → (e ≡ Exhausted → IsExhaustingFirst c ahead) → IsStreamFault c ahead (sim_refusal_of e)
run_fault c ahead Memory h = tt
run_fault c ahead Exhausted h = h refl

-- rows that came first, whether the piece that ends them is full or the last
pub first_or_all : (count : ℕ) (a b d : Ahead) (ps qs : List Row) → ComeFirst a ps b → length qs ≤ count → (length qs ≡ count → ComeFirst b qs d) → (length qs < count → AreAll b qs) → ComeFirst a (ps ++ qs) d ⊎ AreAll a (ps ++ qs)
first_or_all count a b d ps qs first few full short = elim (cases_lt (length qs) count) [
  | inl l ↦ inr (first_end a b ps qs first (short l))
  | inr l ↦ inl (first_on a b d ps qs first (full (omega (arith, few, l))))
]

-- ---- pieces of rows

pub none_left : (b : Bool) (rows : List Row) → b ≡ (length rows == 0) → b ≡ true → rows ≡ []
none_left b [] h k = refl
none_left b (r ∷ rs) h k = let some : (length (r ∷ rs) == 0) ≡ false = grind (arith, nat_tests) in absurd (cc)

pub all_first : (P : Row → Type 0) (ps qs : List Row) → All P (ps ++ qs) → All P ps
all_first P [] qs all = All-nil P
all_first P (p ∷ ps) qs all = All-cons P p ps (All-head P p (ps ++ qs) all) (all_first P ps qs (All-tail P p (ps ++ qs) all))

pub all_behind : (P : Row → Type 0) (ps qs : List Row) → All P (ps ++ qs) → All P qs
all_behind P [] qs all = all
all_behind P (p ∷ ps) qs all = all_behind P ps qs (All-tail P p (ps ++ qs) all)
