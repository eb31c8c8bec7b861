-- Rows that are read piece by piece: how one read after another gives what is still to come.
use Rattle.std.proofs.Common.{◌≡◌, ◌≢◌, ◌<◌, ◌≤◌, ◌+◌, ℕ, List, [], ◌∷◌, ◌++◌, Bool, true, false, Option, Some, None, Ok, Err, refl, sym, ap, subst, ◌∙◌, arith, MatchBool}
use Rattle.std.specs.Prelude.{◌==◌, All, IfNone, IfSome, nat_lt, option_map}
use Rattle.std.proofs.lemmas.List.Elements.{All-append, All-cons, All-nil}
use Rattle.std.proofs.lemmas.Bool.{eq-eqb}
use Rattle.std.proofs.lemmas.Bool.Decides.{nat_tests}
use Rattle.std.proofs.lemmas.Grind.{common_steps}
use Rattle.csv.specs.Reading.{Ready, ReadRecord, has_failed, reader_trim, source_of}
use Rattle.csv.specs.declared.reader.Reader.{Reader}
use Rattle.csv.specs.declared.reader.Trim.TheVariants as trim
use Rattle.csv.specs.declared.parser.Config.{Config}
use Rattle.csv.proofs.ReadFacts.{rows-end, rows-more}
use Rattle.csv.specs.Reading.{Reached, default_config, strip_bom}
use Rattle.csv.specs.declared.parser.State.TheVariants as st
use Rattle.rw_trace.specs.Words.{Fields, OrFault, Text}
use Rattle.rw_trace.specs.Laws.{IsWrong, WritesRow}
use Rattle.rw_trace.specs.Trace.{row_before, version_of}
use Rattle.rw_trace.specs.Unread.{records_left, records_of}
use Rattle.rw_trace.specs.Pieces.{Ahead, AreAll, ComeFirst, Gives, GivesNone, IsRefusal, MayRead, RiseFrom, last_time, ordered_rows_of, ordered_trace_of, records_ahead, row_in_order, rows_before}
use Rattle.rw_trace.specs.declared.Row.{Row}
use Rattle.rw_trace.specs.declared.TraceFault.{TraceFault}
use Rattle.rw_trace.specs.declared.TraceFault.TheVariants as fault
use Rattle.rw_trace.specs.declared.pieces.RowsFault.{RowsFault}
use Rattle.rw_trace.specs.declared.pieces.RowsFault.TheVariants as refused
use Rattle.rw_trace.specs.declared.Version.{Version}
use Rattle.rw_trace.proofs.Laws.{row-complete, wrong-complete}
use Rattle.rw_trace.proofs.Records.{left-none, one-more}

-- One read

either : {P Q : Type 0} (found : Bool) → P → Q → MatchBool found P Q
either true p q = p
either false p q = q

-- what a read tells of the records that are left
pub gives_record : {R : Type 0} (rem : R → Option (List ℕ)) (a b : Reader R) (found : Bool) (f : Fields) → MayRead a
    → ((reader_trim a ≡ trim.None) → Ready a → ReadRecord rem a b found f)
    → MatchBool found (Gives (records_ahead rem a) f (records_ahead rem b)) (GivesNone (records_ahead rem a))
unfolding Reached
gives_record {R} rem a b found f may read = by (source_of rem a) refl
  where
    alive : (xs : List ℕ) → source_of rem a ≡ Some xs → has_failed a ≡ false
    alive xs is = go (has_failed a) refl
      where
        go : (x : Bool) → has_failed a ≡ x → x ≡ false
        go true h = let none = rw h at is in cc
        go false h = refl

    more : (xs : List ℕ) → source_of rem a ≡ Some xs → ReadRecord rem a b true f → Gives (records_ahead rem a) f (records_ahead rem b)
    more xs e r =
        let (z, at_z, reached) = rows-more rem a b f a.config a.state xs xs [] refl e (refl, refl) r in
        let (p, is_p, first, last) = reached in
        let one = one-more a.config a.state b.state xs z f p is_p first last.0 last.1 in
        let rest = ap (λ (c : Config). f ∷ records_left c b.state (Some z)) (sym r.2) in
        rw (e, at_z) (one ∙ rest)

    none : (xs : List ℕ) → source_of rem a ≡ Some xs → ReadRecord rem a b false f → GivesNone (records_ahead rem a)
    none xs e r = rw e (left-none a.config a.state xs (rows-end rem a b f a.config xs refl e r))

    known : (x : Bool) (xs : List ℕ) → source_of rem a ≡ Some xs → ReadRecord rem a b x f → MatchBool x (Gives (records_ahead rem a) f (records_ahead rem b)) (GivesNone (records_ahead rem a))
    known true xs e r = more xs e r
    known false xs e r = none xs e r

    by : (o : Option (List ℕ)) → source_of rem a ≡ o → MatchBool found (Gives (records_ahead rem a) f (records_ahead rem b)) (GivesNone (records_ahead rem a))
    by None e = either found (rw e tt) (rw e tt)
    by (Some xs) e = let each = may (alive xs e) in known found xs e (read each.plain each.ready)

-- One row

module _ (version : Version) (edges most n t : ℕ) where
  pub none_ahead : (o : Option (List Fields)) → GivesNone o → AreAll (option_map (ordered_rows_of version edges most n t) o) []
  unfolding ordered_rows_of
  none_ahead None h = tt
  none_ahead (Some all) h = rw h refl

  module _ (f : Fields) where
    pub many_ahead : (o after : Option (List Fields)) → Gives o f after → n ≡ most → IsRefusal (option_map (ordered_rows_of version edges most n t) o) (refused.Trace fault.TooManyRows)
    unfolding ordered_rows_of
    many_ahead None after h is = tt
    many_ahead (Some all) None h is = absurd h
    many_ahead (Some all) (Some rest) h is = λ _. let last : (n == most) ≡ true = eq-eqb n most is in rw (h, last) refl

    other : n ≢ most → (n == most) ≡ false
    other ne = grind (arith, common_steps)

    pub wrong_ahead : (o after : Option (List Fields)) (e : TraceFault) → Gives o f after → n ≢ most → IsWrong version edges n f e → IsRefusal (option_map (ordered_rows_of version edges most n t) o) (refused.Trace e)
    unfolding ordered_rows_of
    wrong_ahead None after e h ne wrong = tt
    wrong_ahead (Some all) None e h ne wrong = absurd h
    wrong_ahead (Some all) (Some rest) e h ne wrong = λ _. rw (h, other ne, wrong-complete version edges n f e wrong) refl

    module _ (row : Row) (writes : WritesRow version edges f row) (ne : n ≢ most) where
      row_first : (rest : List Fields) → ordered_rows_of version edges most n t (f ∷ rest) ≡ row_in_order n t row (ordered_rows_of version edges most (n + 1) row.time rest)
      unfolding ordered_rows_of
      row_first rest = rw (other ne, row-complete version edges n f row writes) refl

      late : t ≤ row.time → nat_lt row.time t ≡ false
      late l = grind (arith, nat_tests)

      early : row.time < t → nat_lt row.time t ≡ true
      early l = grind (arith, nat_tests)

      pub row_ahead : (o after : Option (List Fields)) → Gives o f after → t ≤ row.time
          → ComeFirst (option_map (ordered_rows_of version edges most n t) o) (row ∷ []) (option_map (ordered_rows_of version edges most (n + 1) row.time) after)
      row_ahead None after h l = tt
      row_ahead (Some all) None h l = absurd h
      row_ahead (Some all) (Some rest) h l = rw h (row_first rest ∙ rw (late l) refl)

      pub order_ahead : (o after : Option (List Fields)) → Gives o f after → row.time < t → IsRefusal (option_map (ordered_rows_of version edges most n t) o) (refused.Trace (fault.Order n))
      order_ahead None after h l = tt
      order_ahead (Some all) None h l = absurd h
      order_ahead (Some all) (Some rest) h l = λ _. rw h (row_first rest ∙ rw (early l) refl)

-- A piece

before-append : (ps : List Row) (r : Row) (rest : OrFault (List Row)) → rows_before (ps ++ r ∷ []) rest ≡ rows_before ps (row_before r rest)
before-append [] r rest = refl
before-append (p ∷ ps) r rest = ap (row_before p) (before-append ps r rest)

before-none : (ps : List Row) → rows_before ps (Ok []) ≡ Ok ps
before-none [] = refl
before-none (p ∷ ps) = ap (row_before p) (before-none ps)

before-fault : (ps : List Row) (e : TraceFault) → rows_before ps (Err e) ≡ Err e
before-fault [] e = refl
before-fault (p ∷ ps) e = ap (row_before p) (before-fault ps e)

pub first_none : (a : Ahead) → ComeFirst a [] a
first_none None = tt
first_none (Some all) = refl

pub first_more : (a b c : Ahead) (ps : List Row) (r : Row) → ComeFirst a ps b → ComeFirst b (r ∷ []) c → ComeFirst a (ps ++ r ∷ []) c
first_more None b c ps r h k = tt
first_more (Some all) None c ps r h k = absurd h
first_more (Some all) (Some rest) None ps r h k = absurd k
first_more (Some all) (Some rest) (Some last) ps r h k = h ∙ ap (rows_before ps) k ∙ sym (before-append ps r last)

pub first_all : (a b : Ahead) (ps : List Row) → ComeFirst a ps b → AreAll b [] → AreAll a ps
first_all None b ps h k = tt
first_all (Some all) None ps h k = absurd h
first_all (Some all) (Some rest) ps h k = h ∙ ap (rows_before ps) k ∙ before-none ps

pub rise_more : (t : ℕ) (ps : List Row) (r : Row) → RiseFrom t ps → last_time t ps ≤ r.time → RiseFrom t (ps ++ r ∷ [])
rise_more t [] r h l = (l, tt)
rise_more t (p ∷ ps) r h l = (h.0, rise_more p.time ps r h.1 l)

pub last_more : (t : ℕ) (ps : List Row) (r : Row) → last_time t (ps ++ r ∷ []) ≡ r.time
last_more t [] r = refl
last_more t (p ∷ ps) r = last_more p.time ps r

pub refused_behind : (a b : Ahead) (ps : List Row) (e : RowsFault) → ComeFirst a ps b → IsRefusal b e → IsRefusal a e
refused_behind None b ps e h k = tt
refused_behind (Some all) None ps e h k = absurd h
refused_behind (Some all) (Some rest) ps (refused.Trace f) h k = λ other. h ∙ ap (rows_before ps) (k other) ∙ before-fault ps f
refused_behind (Some all) (Some rest) ps refused.Read h k = tt

-- The header

pub no_header : (edges most : ℕ) (known : Option Text) → GivesNone (option_map records_of known) → IsRefusal (option_map (λ xs. ordered_trace_of edges most (records_of xs)) known) (refused.Trace fault.Header)
unfolding ordered_trace_of
no_header edges most None h = tt
no_header edges most (Some xs) h = λ _. rw h refl

pub other_header : (edges most : ℕ) (known : Option Text) (f : Fields) (after : Option (List Fields)) → Gives (option_map records_of known) f after → version_of f ≡ None
    → IsRefusal (option_map (λ xs. ordered_trace_of edges most (records_of xs)) known) (refused.Trace fault.Header)
unfolding ordered_trace_of
other_header edges most None f after h is = tt
other_header edges most (Some xs) f None h is = absurd h
other_header edges most (Some xs) f (Some rest) h is = λ _. rw (h, is) refl

pub headed_ahead : (edges most : ℕ) (xs : Text) (f : Fields) (after : Option (List Fields)) (version : Version) → Gives (Some (records_of xs)) f after → version_of f ≡ Some version
    → option_map (ordered_rows_of version edges most 0 0) after ≡ Some (ordered_trace_of edges most (records_of xs))
unfolding ordered_trace_of
headed_ahead edges most xs f None version h is = absurd h
headed_ahead edges most xs f (Some rest) version h is = rw (h, is) refl

-- What is said of what was found, or where nothing was

pub where_none : {A P : Type 0} {o : Option A} → o ≡ None → IfNone o P → P
where_none {P} is h = subst (λ o. IfNone o P) is h

pub where_some : {A : Type 0} (P : A → Type 0) {o : Option A} {x : A} → o ≡ Some x → IfSome o P → P x
where_some P is h = subst (λ o. IfSome o P) is h

pub all_more : (P : Row → Type 0) (ps : List Row) (r : Row) → All P ps → P r → All P (ps ++ r ∷ [])
all_more P ps r all here = All-append P ps (r ∷ []) all (All-cons P r [] here (All-nil P))

-- a reader that has read nothing
pub fresh_ahead : {R : Type 0} (rem : R → Option Text) (a : Reader R) (known : Option Text) → a.config ≡ default_config → a.state ≡ st.StartRecord → source_of rem a ≡ option_map strip_bom known → records_ahead rem a ≡ option_map records_of known
fresh_ahead rem a None config state source = rw source refl
fresh_ahead rem a (Some xs) config state source = rw (source, config, state) refl

pub headed_known : (edges most : ℕ) (known : Option Text) (f : Fields) (after : Option (List Fields)) (version : Version) → Gives (option_map records_of known) f after → version_of f ≡ Some version
    → IfSome known (λ xs. option_map (ordered_rows_of version edges most 0 0) after ≡ Some (ordered_trace_of edges most (records_of xs)))
headed_known edges most None f after version h is = tt
headed_known edges most (Some xs) f after version h is = headed_ahead edges most xs f after version h is
