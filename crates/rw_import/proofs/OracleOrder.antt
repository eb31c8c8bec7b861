-- The rows of a log in the oracle-general format that are read one by one: how one record after another gives what is still to come.
use Rattle.std.proofs.Common.{◌≡◌, ◌≤◌, ◌<◌, ◌+◌, ◌-◌, ◌∙◌, ℕ, List, [], ◌∷◌, Bool, true, false, Option, Some, None, Ok, Err, map, refl, sym, ap, subst, arith}
use Rattle.std.specs.Prelude.{◌==◌, if◌then◌else◌, IfSome, nat_lt, option_map, unwrap_or}
use Rattle.std.proofs.lemmas.Bool.{eq-eqb}
use Rattle.std.proofs.lemmas.Bool.Decides.{nat_tests}
use Rattle.std.proofs.lemmas.Grind.{common_steps}
use Rattle.rw_trace.specs.Laws.{IsRow}
use Rattle.rw_trace.specs.Limits.{most_streamed_rows}
use Rattle.rw_trace.specs.Pieces.{Ahead, AreAll, ComeFirst, Gives, GivesNone, IsRefusal, RowsAhead, row_in_order}
use Rattle.rw_trace.specs.Trace.{row_before}
use Rattle.rw_trace.specs.Words.{OrFault, Text}
use Rattle.rw_trace.specs.declared.Row.{Row}
use Rattle.rw_trace.specs.declared.TraceFault.TheVariants as fault
use Rattle.rw_trace.specs.declared.pieces.RowsFault.TheVariants as refused
use Rattle.rw_trace.proofs.Piecewise.{first_all, first_more, first_none, refused_behind}
use Rattle.rw_import.specs.Log.{Said, Saying, kept_in, row_for, rows_for}
use Rattle.rw_import.specs.Oracle.{oracle_said, piece_said}
use Rattle.rw_import.specs.OracleRows.{FindsKept, LeavesAllOut, oracle_ahead, ordered_kept_rows, ordered_oracle_rows, ordered_piece_rows}
use Rattle.rw_import.specs.OracleStream.{TellsPiece, pieces_ahead, pieces_told}
use Rattle.rw_import.specs.Streamed.{epoch_of, oracle_rows_since, oracle_told_since, or_said, since, told_since}
use Rattle.rw_import.specs.declared.fault.Flaw.{Flaw}
use Rattle.rw_import.specs.declared.options.Options.{Options}
use Rattle.rw_import.specs.declared.options.Streaming.{Streaming}
use Rattle.rw_import.proofs.OracleWritten.{said-all}
use Rattle.rw_import.proofs.Sheets.{row-fine}
use Rattle.rw_import.proofs.Streams.{some-stays}

-- ---- the rows of a log are those that its trace has
-- a row in order stands before those behind it
in-order : (n t : ℕ) (row : Row) (rest : OrFault (List Row)) (given : List Row) → row_in_order n t row rest ≡ Ok given → (rows : List Row) × (rest ≡ Ok rows) × (given ≡ row ∷ rows)
in-order n t row rest given = by (nat_lt row.time t) rest
  where
    by : (b : Bool) (r : OrFault (List Row)) → (if b then Err (fault.Order n) else row_before row r) ≡ Ok given → (rows : List Row) × (r ≡ Ok rows) × (given ≡ row ∷ rows)
    by true r h = absurd (cc h)
    by false (Ok rows) h = (rows, refl, cc)
    by false (Err e) h = absurd (cc h)

not-many : (b : Bool) (rest : OrFault (List Row)) (given : List Row) → (if b then Err fault.TooManyRows else rest) ≡ Ok given → rest ≡ Ok given
not-many true rest given h = absurd (cc h)
not-many false rest given h = h

kept-same : (o : Options) (epoch n kept t : ℕ) (told : List (Saying ℕ)) (given : List Row) → ordered_kept_rows o epoch n kept t told ≡ Ok given → given ≡ rows_for o epoch (λ m. m) kept (kept_in told)
unfolding ordered_kept_rows rows_for
kept-same o epoch n kept t [] given h = cc
kept-same o epoch n kept t (Err f ∷ told) given h = kept-same o epoch (n + 1) kept t told given h
kept-same o epoch n kept t (Ok s ∷ told) given h =
    let row = row_for o epoch kept s.1 s.0 in
    let rest = ordered_kept_rows o epoch (n + 1) (kept + 1) row.time told in
    let (rows, is, gives) = in-order n t row rest given (not-many (kept == most_streamed_rows) (row_in_order n t row rest) given h) in
    gives ∙ ap (λ (rs : List Row). row ∷ rs) (kept-same o epoch (n + 1) (kept + 1) row.time told rows is)

pub given-same : (s : Streaming) (bytes : Text) (given : List Row) → ordered_oracle_rows s bytes ≡ Ok given → given ≡ oracle_rows_since s bytes
given-same s bytes given h = kept-same s.options (epoch_of s.epoch (oracle_said bytes)) 0 0 0 (oracle_told_since s bytes) given h

-- what is still to come of a log of which nothing was read
pub all-ahead : (s : Streaming) (known inner : Option Text) → inner ≡ known → IfSome known (λ bytes. oracle_ahead s.options s.epoch 0 0 0 inner ≡ Some (ordered_oracle_rows s bytes))
all-ahead s None inner is = tt
all-ahead s (Some bytes) inner is =
    let o = s.options in
    ap (λ (k : Option Text). oracle_ahead o s.epoch 0 0 0 k) is
    ∙ ap (λ (said : List (Saying ℕ)). Some (ordered_kept_rows o (epoch_of s.epoch said) 0 0 0 (told_since o.ticks 0 s.epoch said))) (said-all bytes)

-- ---- the epoch at the first of some records
-- what becomes of it does not hang on those behind it
first-told : (ticks : ℕ) (known : Option ℕ) (said : Saying ℕ) (behind : List (Saying ℕ)) → since ticks (epoch_of known (said ∷ behind)) 0 said ≡ since ticks (unwrap_or (or_said known said) 0) 0 said
first-told ticks (Some t) said behind = ap (λ (u : Option ℕ). since ticks (unwrap_or u 0) 0 said) (some-stays t behind)
first-told ticks None (Ok x) behind = ap (λ (u : Option ℕ). since ticks (unwrap_or u 0) 0 (Ok x)) (some-stays x.0.time behind)
first-told ticks None (Err f) behind = refl

-- and where it is kept the epoch is known
kept-epoch : (ticks e : ℕ) (known : Option ℕ) (said : Saying ℕ) (s : Said ℕ) (behind : List (Saying ℕ)) → Ok s ≡ since ticks e 0 said → epoch_of (or_said known said) behind ≡ unwrap_or (or_said known said) 0
kept-epoch ticks e known (Err f) s behind is = absurd (cc is)
kept-epoch ticks e None (Ok x) s behind is = ap (λ (u : Option ℕ). unwrap_or u 0) (some-stays x.0.time behind)
kept-epoch ticks e (Some t) (Ok x) s behind is = ap (λ (u : Option ℕ). unwrap_or u 0) (some-stays t behind)

-- ---- one more record
not-full : (k most : ℕ) → k < most → (k == most) ≡ false
not-full k most few = grind (arith, common_steps)

before : (a b : ℕ) → a < b → nat_lt a b ≡ true
before a b h = grind (arith, nat_tests)

not-before : (a b : ℕ) → b ≤ a → nat_lt a b ≡ false
not-before a b h = grind (arith, nat_tests)

same-number : (a b : ℕ) → a ≤ b → b ≤ a → a ≡ b
same-number a b h k = omega arith

one-less : (a m : ℕ) → m ≡ a + 1 → a ≡ m - 1
one-less a m h = omega arith

module _ (o : Options) (known next : Option ℕ) (n kept t : ℕ) (piece : Text) (told : Saying ℕ) (epoch : next ≡ or_said known (piece_said piece)) (is : told ≡ since o.ticks (unwrap_or next 0) 0 (piece_said piece)) where
  -- of the first record this becomes
  first-piece : (rest : List Text) → ordered_piece_rows o known n kept t (piece ∷ rest) ≡ ordered_kept_rows o (epoch_of next (map piece_said rest)) n kept t (told ∷ pieces_told o next rest)
  first-piece rest =
      let said = piece_said piece in
      let behind = map piece_said rest in
      let becomes : since o.ticks (epoch_of known (said ∷ behind)) 0 said ≡ told = first-told o.ticks known said behind ∙ ap (λ (u : Option ℕ). since o.ticks (unwrap_or u 0) 0 said) (sym epoch) ∙ sym is in
      ap (λ (x : Saying ℕ). ordered_kept_rows o (epoch_of (or_said known said) behind) n kept t (x ∷ pieces_told o (or_said known said) rest)) becomes
      ∙ ap (λ (u : Option ℕ). ordered_kept_rows o (epoch_of u behind) n kept t (told ∷ pieces_told o u rest)) (sym epoch)

  -- it is left out
  left-first : (f : Flaw) → told ≡ Err f → (rest : List Text) → ordered_piece_rows o known n kept t (piece ∷ rest) ≡ ordered_piece_rows o next (n + 1) kept t rest
  unfolding ordered_kept_rows
  left-first f left rest =
      first-piece rest ∙ ap (λ (x : Saying ℕ). ordered_kept_rows o (epoch_of next (map piece_said rest)) n kept t (x ∷ pieces_told o next rest)) left

  left-ahead : (f : Flaw) → told ≡ Err f → (a b : Option (List Text)) → Gives a piece b → ComeFirst (option_map (ordered_piece_rows o known n kept t) a) [] (option_map (ordered_piece_rows o next (n + 1) kept t) b)
  left-ahead f left None b gives = tt
  left-ahead f left (Some all) None gives = absurd gives
  left-ahead f left (Some all) (Some rest) gives = ap (λ (l : List Text). ordered_piece_rows o known n kept t l) gives ∙ left-first f left rest

  -- it is kept
  module _ (s : Said ℕ) (keeps : told ≡ Ok s) where
    abbrev row : Row
    row = row_for o (unwrap_or next 0) kept s.1 s.0

    known-epoch : (rest : List Text) → epoch_of next (map piece_said rest) ≡ unwrap_or next 0
    known-epoch rest =
        let behind = map piece_said rest in
        ap (λ (u : Option ℕ). epoch_of u behind) epoch
        ∙ kept-epoch o.ticks (unwrap_or next 0) known (piece_said piece) s behind (sym keeps ∙ is)
        ∙ ap (λ (u : Option ℕ). unwrap_or u 0) (sym epoch)

    kept-first : (rest : List Text) → ordered_piece_rows o known n kept t (piece ∷ rest) ≡ (if kept == most_streamed_rows then Err fault.TooManyRows else row_in_order n t row (ordered_piece_rows o next (n + 1) (kept + 1) row.time rest))
    unfolding ordered_kept_rows
    kept-first rest =
        let at = epoch_of next (map piece_said rest) in
        let behind = pieces_told o next rest in
        first-piece rest
        ∙ ap (λ (x : Saying ℕ). ordered_kept_rows o at n kept t (x ∷ behind)) keeps
        ∙ ap
        (λ (e : ℕ). if kept == most_streamed_rows then Err fault.TooManyRows else row_in_order n t (row_for o e kept s.1 s.0) (ordered_kept_rows o at (n + 1) (kept + 1) (row_for o e kept s.1 s.0).time behind))
        (known-epoch rest)

    many-first : most_streamed_rows ≡ kept → (rest : List Text) → ordered_piece_rows o known n kept t (piece ∷ rest) ≡ Err fault.TooManyRows
    many-first full rest = let last : (kept == most_streamed_rows) ≡ true = eq-eqb kept most_streamed_rows (sym full) in kept-first rest ∙ rw last refl

    few-first : kept < most_streamed_rows → (rest : List Text) → ordered_piece_rows o known n kept t (piece ∷ rest) ≡ row_in_order n t row (ordered_piece_rows o next (n + 1) (kept + 1) row.time rest)
    few-first few rest = kept-first rest ∙ rw (not-full kept most_streamed_rows few) refl

    many-ahead : most_streamed_rows ≡ kept → (a b : Option (List Text)) → Gives a piece b → IsRefusal (option_map (ordered_piece_rows o known n kept t) a) (refused.Trace fault.TooManyRows)
    many-ahead full None b gives = tt
    many-ahead full (Some all) None gives = absurd gives
    many-ahead full (Some all) (Some rest) gives = λ _. ap (λ (l : List Text). ordered_piece_rows o known n kept t l) gives ∙ many-first full rest

    early-ahead : kept < most_streamed_rows → row.time < t → (a b : Option (List Text)) → Gives a piece b → IsRefusal (option_map (ordered_piece_rows o known n kept t) a) (refused.Trace (fault.Order n))
    early-ahead few early None b gives = tt
    early-ahead few early (Some all) None gives = absurd gives
    early-ahead few early (Some all) (Some rest) gives = λ _. ap (λ (l : List Text). ordered_piece_rows o known n kept t l) gives ∙ few-first few rest ∙ rw (before row.time t early) refl

    row-ahead : kept < most_streamed_rows → t ≤ row.time → (a b : Option (List Text)) → Gives a piece b
        → ComeFirst (option_map (ordered_piece_rows o known n kept t) a) (row ∷ []) (option_map (ordered_piece_rows o next (n + 1) (kept + 1) row.time) b)
    row-ahead few late None b gives = tt
    row-ahead few late (Some all) None gives = absurd gives
    row-ahead few late (Some all) (Some rest) gives = ap (λ (l : List Text). ordered_piece_rows o known n kept t l) gives ∙ few-first few rest ∙ rw (not-before row.time t late) refl

-- ---- one record after another
-- no record is left
none-ahead : (o : Options) (known : Option ℕ) (n kept t : ℕ) (a : Option (List Text)) → GivesNone a → AreAll (option_map (ordered_piece_rows o known n kept t) a) []
unfolding ordered_kept_rows
none-ahead o known n kept t None h = tt
none-ahead o known n kept t (Some all) h = rw h refl

first-again : (a b c : Ahead) → ComeFirst a [] b → ComeFirst b [] c → ComeFirst a [] c
first-again None b c h k = tt
first-again (Some all) None c h k = absurd h
first-again (Some all) (Some rest) None h k = absurd k
first-again (Some all) (Some rest) (Some last) h k = h ∙ k

pub leaves-none : (o : Options) (known : Option ℕ) (n : ℕ) (bytes : Option Text) → LeavesAllOut o known known n n bytes bytes
leaves-none o known n bytes = record { stays = λ kept t. first_none (oracle_ahead o known n kept t bytes) }

pub leaves-more : (o : Options) (known epoch next : Option ℕ) (n m : ℕ) (old before new : Option Text) (f : Flaw) → LeavesAllOut o known epoch n m old before → TellsPiece o before new epoch next (Err f)
    → LeavesAllOut o known next n (m + 1) old new
leaves-more o known epoch next n m old before new f h tells = record {
  stays = λ kept t. first-again (oracle_ahead o known n kept t old) (oracle_ahead o epoch m kept t before) (oracle_ahead o next (m + 1) kept t new) (h.stays kept t)
      (left-ahead o epoch next m kept t tells.piece (Err f) tells.epoch tells.is f refl (pieces_ahead before) (pieces_ahead new) tells.gives);
}

pub leaves-all : (o : Options) (known epoch : Option ℕ) (n m : ℕ) (old before : Option Text) → LeavesAllOut o known epoch n m old before → GivesNone (pieces_ahead before) → (kept t : ℕ) → AreAll (oracle_ahead o known n kept t old) []
leaves-all o known epoch n m old before h none kept t =
    first_all (oracle_ahead o known n kept t old) (oracle_ahead o epoch m kept t before) [] (h.stays kept t) (none-ahead o epoch m kept t (pieces_ahead before) none)

-- the next record that is kept
module _ (o : Options) (known next : Option ℕ) (n m kept t : ℕ) (old new : Option Text) (s : Said ℕ) (h : FindsKept o known next n m old new s) where
  abbrev found : Row
  found = row_for o (unwrap_or next 0) kept s.1 s.0

  abbrev now : Ahead
  now = oracle_ahead o known n kept t old

  abbrev later : Ahead
  later = oracle_ahead o h.epoch h.at kept t h.before

  found-many : most_streamed_rows ≤ kept → kept ≤ most_streamed_rows → IsRefusal now (refused.Trace fault.TooManyRows)
  found-many full few =
      let tells = h.tells in
      refused_behind now later [] (refused.Trace fault.TooManyRows) (h.left_out.stays kept t)
      (many-ahead o h.epoch next h.at kept t tells.piece (Ok s) tells.epoch tells.is s refl (same-number most_streamed_rows kept full few) (pieces_ahead h.before) (pieces_ahead new) tells.gives)

  found-early : kept < most_streamed_rows → found.time < t → IsRefusal now (refused.Trace (fault.Order (m - 1)))
  found-early few early =
      let tells = h.tells in
      subst (λ (k : ℕ). IsRefusal now (refused.Trace (fault.Order k))) (one-less h.at m h.number)
      (refused_behind now later [] (refused.Trace (fault.Order h.at)) (h.left_out.stays kept t)
      (early-ahead o h.epoch next h.at kept t tells.piece (Ok s) tells.epoch tells.is s refl few early (pieces_ahead h.before) (pieces_ahead new) tells.gives))

  found-first : kept < most_streamed_rows → t ≤ found.time → ComeFirst now (found ∷ []) (oracle_ahead o next m (kept + 1) found.time new)
  found-first few late =
      let tells = h.tells in
      subst (λ (k : ℕ). ComeFirst now (found ∷ []) (oracle_ahead o next k (kept + 1) found.time new)) (sym h.number)
      (first_more now later (oracle_ahead o next (h.at + 1) (kept + 1) found.time new) [] found (h.left_out.stays kept t)
      (row-ahead o h.epoch next h.at kept t tells.piece (Ok s) tells.epoch tells.is s refl few late (pieces_ahead h.before) (pieces_ahead new) tells.gives))

  found-row : IsRow o.edges found
  found-row = row-fine o.edges o (unwrap_or next 0) kept s o.some_edges h.tells.keepable

  -- where what is still to come is seen
  module _ (v : RowsAhead) (ahead : now ≡ v.ahead) where
    pub many-found : most_streamed_rows ≤ kept → kept ≤ most_streamed_rows → IsRefusal v.ahead (refused.Trace fault.TooManyRows)
    many-found full few = subst (λ (a : Ahead). IsRefusal a (refused.Trace fault.TooManyRows)) ahead (found-many full few)

    module _ (at : ℕ) (row : Row) (its : at ≡ unwrap_or next 0) (is : row ≡ row_for o at kept s.1 s.0) where
      found-is : found ≡ row
      found-is = sym (is ∙ ap (λ (e : ℕ). row_for o e kept s.1 s.0) its)

      pub early-found : kept < most_streamed_rows → row.time < t → IsRefusal v.ahead (refused.Trace (fault.Order (m - 1)))
      early-found few = subst (λ (a : Ahead). row.time < t → IsRefusal a (refused.Trace (fault.Order (m - 1)))) ahead
          (subst (λ (r : Row). r.time < t → IsRefusal now (refused.Trace (fault.Order (m - 1)))) found-is (found-early few))

      pub first-found : kept < most_streamed_rows → t ≤ row.time → ComeFirst v.ahead (row ∷ []) (oracle_ahead o next m (kept + 1) row.time new)
      first-found few = subst (λ (a : Ahead). t ≤ row.time → ComeFirst a (row ∷ []) (oracle_ahead o next m (kept + 1) row.time new)) ahead
          (subst (λ (r : Row). t ≤ r.time → ComeFirst now (r ∷ []) (oracle_ahead o next m (kept + 1) r.time new)) found-is (found-first few))

      pub row-found : o.edges ≡ v.edges → IsRow v.edges row
      row-found edges = subst (λ (k : ℕ). IsRow k row) edges (subst (λ (r : Row). IsRow o.edges r) found-is found-row)
