-- How what has come of a log grows by a row, where its trace goes out as it is read.
use Rattle.std.proofs.Common.{◌≡◌, ◌≤◌, ◌<◌, ◌+◌, ◌∙◌, ◌⊎◌, inl, inr, ℕ, List, [], ◌∷◌, ◌++◌, Bool, true, false, Option, Some, None, Ok, Err, append_assoc, fold, length, map, refl, sym, ap, subst, arith}
use Rattle.std.specs.Prelude.{◌≢◌, ◌^◌, IfOk, IfSome, MatchOption, nat_le, unwrap_or}
use Rattle.std.specs.Result.{is_ok, result_ok}
use Rattle.std.specs.Io.KnownBytes.{Appends}
use Rattle.std.specs.Prelude.{Result}
use Rattle.std.proofs.lemmas.List.{append-nil, flat_map_more, length_push, map-append}
use Rattle.std.proofs.lemmas.List.Elements.{All-nil, All-push, filter_map-append}
use Rattle.std.proofs.lemmas.List.Sums.{fold-append, fold_push}
use Rattle.std.proofs.lemmas.Grind.{common_steps}
use Rattle.rw_trace.specs.Laws.{IsRow}
use Rattle.rw_trace.specs.Limits.{greatest_size, latest_time}
use Rattle.rw_trace.specs.Pieces.{Gives, GivesNone}
use Rattle.rw_trace.specs.Words.{Text}
use Rattle.rw_trace.specs.declared.Kind.TheVariants.{Get}
use Rattle.rw_trace.specs.declared.Row.{Row}
use Rattle.rw_import.specs.Csv.{beside}
use Rattle.rw_import.specs.Lines.{row_line, trace_header, trace_lines}
use Rattle.rw_import.specs.Log.{Said, Saying, fault_at, kept_in, row_for, rows_for, ticks_from}
use Rattle.rw_import.specs.Sheet.{AreCountsOf, IsEdgeIn, IsKeepable, clamped_with, counts_with, numbered_by}
use Rattle.rw_import.specs.Stream.{AddsLine, AreAllRead, AreLinesCounted, IsFresh, IsStreamOf, AreWholeLines, KeepsCounts, KeepsLine, LeavesOut, ReadsUpTo, RefusesLine, SendsAllOrNone, entry_since}
use Rattle.rw_import.specs.Streamed.{IsOfLog, IsRefusedBehind, StandInOrder, epoch_of, is_timely, last_log_time, or_said, since, told_since}
use Rattle.rw_import.specs.Written.{NamesPurges, is_purging}
use Rattle.rw_import.specs.declared.entry.Entry.{Entry}
use Rattle.rw_import.specs.declared.entry.LeftOut.{LeftOut}
use Rattle.rw_import.specs.declared.fault.Flaw.{Flaw}
use Rattle.rw_import.specs.declared.fault.Flaw.TheVariants.{Column}
use Rattle.rw_import.specs.declared.fault.Part.TheVariants as part
use Rattle.rw_import.specs.declared.fault.ImportFault.{ImportFault}
use Rattle.rw_import.specs.declared.fault.ImportFault.TheVariants as fault
use Rattle.rw_import.specs.declared.options.Options.{Options}
use Rattle.rw_import.specs.declared.stream.Stream.{Stream}
use Rattle.rw_import.proofs.Sheets.{clamped-push, left-kept, left-push}

-- ---- the epoch
-- an epoch that is known stays
pub some-stays : {O : Type 0} (t : ℕ) (said : List (Saying O)) → fold or_said (Some t) said ≡ Some t
some-stays t [] = refl
some-stays t (s ∷ rest) = some-stays t rest

epoch-stays : {O : Type 0} (asked : Option ℕ) (t : ℕ) (said more : List (Saying O)) → fold or_said asked said ≡ Some t → fold or_said asked (said ++ more) ≡ Some t
epoch-stays asked t said more e = fold-append or_said asked said more ∙ ap (λ (x : Option ℕ). fold or_said x more) e ∙ some-stays t more

-- where no row has said one, none is kept, whatever the epoch
unsaid : {O : Type 0} (ticks column t : ℕ) (asked : Option ℕ) (said : List (Saying O)) → fold or_said asked said ≡ None → map (since ticks t column) said ≡ said
unsaid ticks column t asked [] e = refl
unsaid ticks column t (Some u) (s ∷ rest) e = let stays = some-stays u rest in absurd (cc (stays, e))
unsaid ticks column t None (Ok s ∷ rest) e = let stays = some-stays s.0.time rest in absurd (cc (stays, e))
unsaid ticks column t None (Err f ∷ rest) e = ap (λ (l : List _). Err f ∷ l) (unsaid ticks column t None rest e)

none-kept : {O : Type 0} (asked : Option ℕ) (said : List (Saying O)) → fold or_said asked said ≡ None → kept_in said ≡ []
none-kept asked [] e = refl
none-kept (Some u) (s ∷ rest) e = let stays = some-stays u rest in absurd (cc (stays, e))
none-kept None (Ok s ∷ rest) e = let stays = some-stays s.0.time rest in absurd (cc (stays, e))
none-kept None (Err f ∷ rest) e = none-kept None rest e

module _ {O : Type 0} (ticks column : ℕ) (asked : Option ℕ) where
  -- what becomes of some rows stays where more come behind
  pub told-stays : (said more : List (Saying O)) → map (since ticks (epoch_of asked (said ++ more)) column) said ≡ told_since ticks column asked said
  told-stays said more = by (fold or_said asked said) refl
    where
      by : (o : Option ℕ) → fold or_said asked said ≡ o → map (since ticks (epoch_of asked (said ++ more)) column) said ≡ told_since ticks column asked said
      by None e = unsaid ticks column (epoch_of asked (said ++ more)) asked said e ∙ sym (unsaid ticks column (epoch_of asked said) asked said e)
      by (Some t) e = ap (λ (u : Option ℕ). map (since ticks (unwrap_or u 0) column) said) (epoch-stays asked t said more e ∙ sym e)

  -- before one more row none is kept, or the epoch is known
  pub epoch-or-none : (said more : List (Saying O)) → (kept_in (told_since ticks column asked said) ≡ []) ⊎ (epoch_of asked (said ++ more) ≡ epoch_of asked said)
  epoch-or-none said more = by (fold or_said asked said) refl
    where
      by : (o : Option ℕ) → fold or_said asked said ≡ o → (kept_in (told_since ticks column asked said) ≡ []) ⊎ (epoch_of asked (said ++ more) ≡ epoch_of asked said)
      by None e = inl (ap kept_in (unsaid ticks column (epoch_of asked said) asked said e) ∙ none-kept asked said e)
      by (Some t) e = inr (ap (λ (u : Option ℕ). unwrap_or u 0) (epoch-stays asked t said more e ∙ sym e))

  -- with one more row
  pub told-more : (said : List (Saying O)) (s : Saying O) → told_since ticks column asked (said ++ s ∷ []) ≡ told_since ticks column asked said ++ since ticks (epoch_of asked (said ++ s ∷ [])) column s ∷ []
  told-more said s =
      let f = since ticks (epoch_of asked (said ++ s ∷ [])) column in
      map-append f said (s ∷ []) ∙ ap (λ (l : List (Saying O)). l ++ f s ∷ []) (told-stays said (s ∷ []))

  known : (u : Option ℕ) (x : Said O) → (t : ℕ) × (or_said u (Ok x) ≡ Some t)
  known None x = (x.0.time, refl)
  known (Some t) x = (t, refl)

  -- its epoch is that of all
  pub one-stays : (said : List (Saying O)) (s : Saying O) (more : List (Saying O)) → since ticks (epoch_of asked (said ++ s ∷ more)) column s ≡ since ticks (epoch_of asked (said ++ s ∷ [])) column s
  one-stays said (Err f) more = refl
  one-stays said (Ok x) more =
      let (t, is) = known (fold or_said asked said) x in
      let now : fold or_said asked (said ++ Ok x ∷ []) ≡ Some t = fold_push or_said asked said (Ok x) ∙ is in
      let all : fold or_said asked ((said ++ Ok x ∷ []) ++ more) ≡ Some t = epoch-stays asked t (said ++ Ok x ∷ []) more now in
      let whole : fold or_said asked (said ++ Ok x ∷ more) ≡ Some t = ap (λ (l : List (Saying O)). fold or_said asked l) (sym (append_assoc said (Ok x ∷ []) more)) ∙ all in
      ap (λ (u : Option ℕ). since ticks (unwrap_or u 0) column (Ok x)) (whole ∙ sym now)

  -- with one more row, and others behind it
  pub told-behind : (said : List (Saying O)) (s : Saying O) (more : List (Saying O))
      → told_since ticks column asked (said ++ s ∷ more)
      ≡ told_since ticks column asked said ++ (since ticks (epoch_of asked (said ++ s ∷ [])) column s ∷ map (since ticks (epoch_of asked (said ++ s ∷ more)) column) more)
  told-behind said s more =
      let f = since ticks (epoch_of asked (said ++ s ∷ more)) column in
      map-append f said (s ∷ more)
      ∙ ap (λ (l : List (Saying O)). l ++ (f s ∷ map f more)) (told-stays said (s ∷ more))
      ∙ ap (λ (x : Saying O). told_since ticks column asked said ++ (x ∷ map f more)) (one-stays said s more)

-- ---- one more record, of which this is said
module _ {X O : Type 0} (say : X → Saying O) (ticks column : ℕ) (asked : Option ℕ) (seen : List X) (x : X) where
  next-said : map say (seen ++ x ∷ []) ≡ map say seen ++ say x ∷ []
  next-said = map-append say seen (x ∷ [])

  -- the epoch
  pub next-epoch : (known later : Option ℕ) → known ≡ fold or_said asked (map say seen) → later ≡ or_said known (say x) → later ≡ fold or_said asked (map say (seen ++ x ∷ []))
  next-epoch known later is next =
      next ∙ ap (λ (u : Option ℕ). or_said u (say x)) is ∙ sym (fold_push or_said asked (map say seen) (say x)) ∙ ap (λ (l : List (Saying O)). fold or_said asked l) (sym next-said)

  -- before it none is kept, or the epoch is known
  pub next-before : (kept_in (told_since ticks column asked (map say seen)) ≡ []) ⊎ (epoch_of asked (map say (seen ++ x ∷ [])) ≡ epoch_of asked (map say seen))
  next-before = elim (epoch-or-none ticks column asked (map say seen) (say x ∷ [])) [
    | inl none ↦ inl none
    | inr same ↦ inr (ap (λ (l : List (Saying O)). epoch_of asked l) next-said ∙ same)
  ]

  module _ (at : ℕ) (told : Saying O) (its : at ≡ epoch_of asked (map say (seen ++ x ∷ []))) (is : told ≡ since ticks at column (say x)) where
    next-is : since ticks (epoch_of asked (map say seen ++ say x ∷ [])) column (say x) ≡ told
    next-is = ap (λ (e : ℕ). since ticks e column (say x)) (ap (λ (l : List (Saying O)). epoch_of asked l) (sym next-said) ∙ sym its) ∙ sym is

    -- what becomes of all
    pub next-told : told_since ticks column asked (map say (seen ++ x ∷ [])) ≡ told_since ticks column asked (map say seen) ++ told ∷ []
    next-told =
        ap (λ (l : List (Saying O)). told_since ticks column asked l) next-said
        ∙ told-more ticks column asked (map say seen) (say x)
        ∙ ap (λ (y : Saying O). told_since ticks column asked (map say seen) ++ y ∷ []) next-is

    -- and where others come behind it
    pub next-rest : (rest : List X) → (after : List (Saying O)) × (told_since ticks column asked (map say (seen ++ x ∷ rest)) ≡ told_since ticks column asked (map say seen) ++ (told ∷ after))
    next-rest rest =
        let after = map (since ticks (epoch_of asked (map say seen ++ say x ∷ map say rest)) column) (map say rest) in (
          after,
          ap (λ (l : List (Saying O)). told_since ticks column asked l) (map-append say seen (x ∷ rest))
              ∙ told-behind ticks column asked (map say seen) (say x) (map say rest)
              ∙ ap (λ (y : Saying O). told_since ticks column asked (map say seen) ++ (y ∷ after)) next-is,
        )

-- an object beside an entry is no part of what its time says
pub since-beside : {O : Type 0} (ticks epoch column : ℕ) (object : O) (r : Result Entry Flaw) → since ticks epoch column (beside object r) ≡ beside object (entry_since ticks epoch column r)
since-beside ticks epoch column object (Err f) = refl
since-beside ticks epoch column object (Ok e) = by (is_timely ticks epoch e.time) refl
  where
    by : (b : Bool) → is_timely ticks epoch e.time ≡ b → since ticks epoch column (beside object (Ok e)) ≡ beside object (entry_since ticks epoch column (Ok e))
    by true k = rw k refl
    by false k = rw k refl

-- the same rows, whatever the epoch, where none is kept
pub rows-epoch : {O : Type 0} (o : Options) (a b : ℕ) (number : O → ℕ) (ss : List (Said O)) → (ss ≡ []) ⊎ (a ≡ b) → rows_for o a number 0 ss ≡ rows_for o b number 0 ss
unfolding rows_for
rows-epoch o a b number ss (inl none) = rw none refl
rows-epoch o a b number ss (inr same) = ap (λ (t : ℕ). rows_for o t number 0 ss) same

-- ---- order
pub order-push : {O : Type 0} (t : ℕ) (ss : List (Said O)) (s : Said O) → StandInOrder t ss → last_log_time t ss ≤ s.0.time → StandInOrder t (ss ++ s ∷ [])
order-push t [] s h l = (l, tt)
order-push t (x ∷ ss) s h l = (h.0, order-push x.0.time ss s h.1 l)

pub last-push : {O : Type 0} (t : ℕ) (ss : List (Said O)) (s : Said O) → last_log_time t (ss ++ s ∷ []) ≡ s.0.time
last-push t [] s = refl
last-push t (x ∷ ss) s = last-push x.0.time ss s

-- ---- records that are read
pub passed-none : {A : Type 0} (o : Option (List A)) → ReadsUpTo o [] o
passed-none None = tt
passed-none (Some xs) = refl

pub passed-more : {A : Type 0} (o now after : Option (List A)) (seen : List A) (x : A) → ReadsUpTo o seen now → Gives now x after → ReadsUpTo o (seen ++ x ∷ []) after
passed-more None now after seen x h g = tt
passed-more (Some all) None after seen x h g = absurd h
passed-more (Some all) (Some rest) None seen x h g = absurd g
passed-more (Some all) (Some rest) (Some last) seen x h g = h ∙ ap (λ (l : List _). seen ++ l) g ∙ sym (append_assoc seen (x ∷ []) last)

pub passed-all : {A : Type 0} (o now : Option (List A)) (seen : List A) → ReadsUpTo o seen now → GivesNone now → AreAllRead o seen
passed-all None now seen h g = tt
passed-all (Some all) None seen h g = absurd h
passed-all (Some all) (Some rest) seen h g = h ∙ ap (λ (l : List _). seen ++ l) g ∙ append-nil seen

-- a fact of all records, from those that are seen, the next one and those behind it
pub passed-if : {A : Type 0} (P : List A → Type 0) (o now after : Option (List A)) (seen : List A) (x : A) → ReadsUpTo o seen now → Gives now x after
    → ((more : List A) → P (seen ++ x ∷ more)) → IfSome o P
passed-if P None now after seen x h g all = tt
passed-if P (Some xs) None after seen x h g all = absurd h
passed-if P (Some xs) (Some rest) None seen x h g all = absurd g
passed-if P (Some xs) (Some rest) (Some last) seen x h g all = subst P (sym (h ∙ ap (λ (l : List _). seen ++ l) g)) (all last)

-- ---- what has gone out
pub appends-none : (known : Option Text) → Appends known known []
appends-none None = tt
appends-none (Some xs) = sym (append-nil xs)

pub appends-more : (a b c : Option Text) (xs ys : Text) → Appends a b xs → Appends b c ys → Appends a c (xs ++ ys)
appends-more None b c xs ys h k = tt
appends-more (Some a) None c xs ys h k = absurd h
appends-more (Some a) (Some b) None xs ys h k = absurd k
appends-more (Some a) (Some b) (Some c) xs ys h k = k ∙ ap (λ (l : Text). l ++ ys) h ∙ append_assoc a xs ys

-- nothing has come yet
pub stream-none : {O : Type 0} (edges : ℕ) (o : Options) (s : Stream) → IsFresh s → IsStreamOf {O = O} edges o [] [] [] s
stream-none {O} edges o s fresh = record {
  lines = fresh.text ∙ sym (append-nil (trace_header s.kinds));
  taken = record { strict = λ strict. All-nil (λ (y : Saying O). is_ok y ≡ true); ordered = tt; few = omega arith };
  kept = fresh.kept;
  latest = fresh.latest;
  left_out = fresh.left_out;
  clamped = fresh.clamped;
  ranges = λ some. All-nil (IsRow edges);
  named = All-nil (λ (r : Row). is_purging r.kind ≡ true → s.kinds ≡ true);
  whole = record { none = λ _. refl; some = λ begun. let no = fresh.begun in absurd (cc (no, begun)) };
}

-- ---- one more row
module _ {O : Type 0} (edges : ℕ) (o : Options) (rows : List Row) (told : List (Saying O)) (gone : Text) (old new : Stream) where
  whole-stays : new.begun ≡ old.begun → new.kinds ≡ old.kinds → AreWholeLines edges old.begun old.kinds gone → AreWholeLines edges new.begun new.kinds gone
  whole-stays begun kinds h = subst (λ (b : Bool). AreWholeLines edges b new.kinds gone) (sym begun) (subst (λ (b : Bool). AreWholeLines edges old.begun b gone) (sym kinds) h)

  pub stream-kept : (e : Entry) (x : O) (object : ℕ) (row : Row) → IsStreamOf edges o rows told gone old → KeepsLine o old new e object → row ≡ row_for o (unwrap_or old.epoch 0) old.kept object e
      → (1 ≤ o.edges → IsRow edges row) → (is_purging row.kind ≡ true → old.kinds ≡ true) → IsStreamOf edges o (rows ++ row ∷ []) (told ++ Ok (e, x) ∷ []) gone new
  stream-kept e x object row k h is fine named =
      let kept : kept_in (told ++ Ok (e, x) ∷ []) ≡ kept_in told ++ (e, x) ∷ [] = filter_map-append result_ok told (Ok (e, x) ∷ []) in
      let line : new.text.items ≡ old.text.items ++ row_line old.kinds row = h.text ∙ ap (λ (r : Row). old.text.items ++ row_line old.kinds r) (sym is) in
      let lines : gone ++ new.text.items ≡ trace_lines old.kinds (rows ++ row ∷ []) =
      ap (λ (t : Text). gone ++ t) line
      ∙ sym (append_assoc gone old.text.items (row_line old.kinds row))
      ∙ ap (λ (t : Text). t ++ row_line old.kinds row) k.lines
      ∙ flat_map_more (row_line old.kinds) (trace_header old.kinds) rows row in
      let kinds : old.kinds ≡ new.kinds = sym h.kinds in
      record {
        lines = subst (λ (b : Bool). gone ++ new.text.items ≡ trace_lines b (rows ++ row ∷ [])) kinds lines;
        taken = record {
          strict = λ strict. All-push (λ y. is_ok y ≡ true) told (Ok (e, x)) (k.taken.strict strict) refl;
          ordered = rw kept (order-push 0 (kept_in told) (e, x) k.taken.ordered (subst (λ (t : ℕ). t ≤ e.time) k.latest h.ordered));
          few = rw (kept, length_push) (omega (arith, h.few, k.kept));
        };
        kept = rw (kept, length_push) (h.kept ∙ ap (λ (n : ℕ). n + 1) k.kept);
        latest = rw kept (h.latest ∙ sym (last-push 0 (kept_in told) (e, x)));
        left_out = h.left_out ∙ k.left_out ∙ sym (left-kept told (e, x));
        clamped = rw kept (h.clamped ∙ ap (λ (n : ℕ). clamped_with n e.clamped) k.clamped ∙ sym (clamped-push (kept_in told) (e, x)));
        ranges = λ some. All-push (IsRow edges) rows row (k.ranges some) (fine some);
        whole = whole-stays h.begun h.kinds k.whole;
        named = subst (λ (b : Bool). NamesPurges b (rows ++ row ∷ [])) kinds (All-push (λ (r : Row). is_purging r.kind ≡ true → old.kinds ≡ true) rows row k.named named);
      }

  pub stream-left : (f : Flaw) → IsStreamOf edges o rows told gone old → LeavesOut o old new f → IsStreamOf edges o rows (told ++ Err f ∷ []) gone new
  stream-left f k h =
      let kept : kept_in (told ++ Err f ∷ []) ≡ kept_in told = filter_map-append result_ok told (Err f ∷ []) ∙ append-nil (kept_in told) in
      let kinds : old.kinds ≡ new.kinds = sym h.kinds in
      record {
        lines = subst (λ (b : Bool). gone ++ new.text.items ≡ trace_lines b rows) kinds (ap (λ (t : Text). gone ++ t) h.text ∙ k.lines);
        taken = record {
          strict = λ strict. let both : true ≡ false = sym strict ∙ h.lenient in absurd (cc both);
          ordered = rw kept k.taken.ordered;
          few = rw kept k.taken.few;
        };
        kept = rw kept (h.kept ∙ k.kept);
        latest = rw kept (h.latest ∙ k.latest);
        left_out = h.left_out ∙ ap (λ (l : LeftOut). counts_with l f) k.left_out ∙ sym (left-push told f);
        clamped = rw kept (h.clamped ∙ k.clamped);
        ranges = k.ranges;
        whole = whole-stays h.begun h.kinds k.whole;
        named = subst (λ (b : Bool). NamesPurges b rows) kinds k.named;
      }

  -- the same stream, but for its epoch
  pub stream-keeps : old.text.items ≡ new.text.items → new.begun ≡ old.begun → KeepsCounts old new → IsStreamOf edges o rows told gone old → IsStreamOf edges o rows told gone new
  stream-keeps text begun h k = record {
    lines = subst (λ (b : Bool). gone ++ new.text.items ≡ trace_lines b rows) (sym h.kinds) (ap (λ (t : Text). gone ++ t) (sym text) ∙ k.lines);
    taken = k.taken;
    kept = h.kept ∙ k.kept;
    latest = h.latest ∙ k.latest;
    left_out = h.left_out ∙ k.left_out;
    clamped = h.clamped ∙ k.clamped;
    ranges = k.ranges;
    whole = whole-stays begun h.kinds k.whole;
    named = subst (λ (b : Bool). NamesPurges b rows) (sym h.kinds) k.named;
  }

  -- lines that waited have gone out, or not
  pub stream-sends : (base before after : Option Text) → Appends base before gone → SendsAllOrNone before after old new → IsStreamOf edges o rows told gone old
      → (more : Text) × Appends base after more × IsStreamOf edges o rows told more new
  stream-sends base before after gained (inl all) k =
      let more = gone ++ old.text.items in (
        more,
        appends-more base before after gone old.text.items gained all.gained,
        record {
          lines = subst (λ (b : Bool). more ++ new.text.items ≡ trace_lines b rows) (sym all.same.kinds) (ap (λ (t : Text). more ++ t) all.none ∙ append-nil more ∙ k.lines);
          taken = k.taken;
          kept = all.same.kept ∙ k.kept;
          latest = all.same.latest ∙ k.latest;
          left_out = all.same.left_out ∙ k.left_out;
          clamped = all.same.clamped ∙ k.clamped;
          ranges = k.ranges;
          whole = record {
            none = λ off. let on = all.begun in absurd (cc (on, off));
            some = λ _. (rows, subst (λ (b : Bool). more ≡ trace_lines b rows) (sym all.same.kinds) k.lines, k.ranges o.some_edges);
          };
          named = subst (λ (b : Bool). NamesPurges b rows) (sym all.same.kinds) k.named;
        },
      )
  stream-sends base before after gained (inr none) k =
      (gone, subst (λ (known : Option Text). Appends base known gone) (sym none.1) gained, subst (λ (s : Stream). IsStreamOf edges o rows told gone s) (sym none.0) k)

  -- why one more row is refused
  pub stream-refuses : (number : O → ℕ) (s : Saying O) (row : ℕ) (e : ImportFault) → IsStreamOf edges o rows told gone old → length told ≡ row → RefusesLine o row old (numbered_by number s) e → IsRefusedBehind o told s e
  stream-refuses number (Err f) row e k at h = (h.0, h.1 ∙ ap (λ (n : ℕ). fault_at n f) (sym at))
  stream-refuses number (Ok s) row e k at (inl h) = inl (omega (arith, h.0, k.kept, k.taken.few), h.1)
  stream-refuses number (Ok s) row e k at (inr h) =
      inr (omega (arith, h.0, k.kept), subst (λ (t : ℕ). s.0.time < t) k.latest h.1, h.2 ∙ ap (λ (n : ℕ). fault.Order n) (sym at))

-- ---- what stays
pub adds-same : (o : Options) (old new : Stream) (s : Saying ℕ) → AddsLine o old new s → (new.epoch ≡ old.epoch) × (new.kinds ≡ old.kinds) × (new.begun ≡ old.begun)
adds-same o old new (Ok s) h = (h.epoch, h.kinds, h.begun)
adds-same o old new (Err f) h = (h.epoch, h.kinds, h.begun)

pub sends-same : (before after : Option Text) (old new : Stream) → SendsAllOrNone before after old new → (new.epoch ≡ old.epoch) × (new.kinds ≡ old.kinds)
sends-same before after old new (inl all) = (all.epoch, all.same.kinds)
sends-same before after old new (inr none) = (ap (λ (s : Stream). s.epoch) none.0, ap (λ (s : Stream). s.kinds) none.0)

pub sends-counted : (n : ℕ) (before after : Option Text) (old new : Stream) → SendsAllOrNone before after old new → AreLinesCounted n old → AreLinesCounted n new
sends-counted n before after old new (inl all) h = (subst (λ (l : LeftOut). AreCountsOf n l) (sym all.same.left_out) h.0, subst (λ (m : ℕ). m ≤ n) (sym all.same.clamped) h.1)
sends-counted n before after old new (inr none) h = subst (λ (s : Stream). AreLinesCounted n s) (sym none.0) h

-- ---- what a row is to have
edge-in : (edges : ℕ) (o : Options) (place x : Option ℕ) → MatchOption x (place ≡ None) (λ k. k < edges) → (place ≡ None → o.edges ≡ edges) → IsEdgeIn edges o x
edge-in edges o place None h asked = asked h
edge-in edges o place (Some k) h asked = h

within : (ticks at time : ℕ) → is_timely ticks at time ≡ true → ticks_from ticks at time ≤ latest_time
within ticks at time h = by (nat_le at time) refl
  where
    by : (b : Bool) → nat_le at time ≡ b → ticks_from ticks at time ≤ latest_time
    by true k = let both = rw k at h in grind (arith, common_steps, both)
    by false k = let both = rw k at h in absurd (cc both)

-- a row that is kept has what a trace's row is to have
pub keepable-since : (edges : ℕ) (o : Options) (at column n : ℕ) (place : Option ℕ) (said judged : Result Entry Flaw) (told : Saying ℕ) → judged ≡ entry_since o.ticks at column said → told ≡ beside n judged
    → IfOk said (λ e. e.time < 10 ^ 29) → IfOk said (λ e. MatchOption e.edge (place ≡ None) (λ k. k < edges)) → IfOk said (λ e. 1 ≤ e.size) → IfOk said (λ e. e.size ≤ greatest_size)
    → IfOk told (λ s. s.1 < 2 ^ 64) → (place ≡ None → o.edges ≡ edges) → IsKeepable edges o at told
keepable-since edges o at column n place (Err f) judged told is told_is short edge some few small asked =
    let left : told ≡ Err f = told_is ∙ ap (beside n) is in rw left tt
keepable-since edges o at column n place (Ok e) judged told is told_is short edge some few small asked = by (is_timely o.ticks at e.time) refl
  where
    by : (b : Bool) → is_timely o.ticks at e.time ≡ b → IsKeepable edges o at told
    by true k =
        let kept : told ≡ Ok (e, n) = told_is ∙ ap (beside n) (rw k at is) in
        let tiny : n < 2 ^ 64 = subst (λ (s : Saying ℕ). IfOk s (λ x. x.1 < 2 ^ 64)) kept small in
        rw kept (edge-in edges o place e.edge edge asked, some, few, tiny, short, within o.ticks at e.time k)
    by false k =
        let left : told ≡ beside n (Err (Column column part.Time)) = told_is ∙ ap (beside n) (rw k at is) in
        rw left tt

-- and, where there is no column of kinds, it is a get
pub get-since : (ticks at column n : ℕ) (place : Option ℕ) (said judged : Result Entry Flaw) (told : Saying ℕ) → judged ≡ entry_since ticks at column said → told ≡ beside n judged
    → IfOk said (λ e. place ≡ None → e.kind ≡ Get) → place ≡ None → IfOk told (λ s. s.0.kind ≡ Get)
get-since ticks at column n place (Err f) judged told is told_is kind none =
    let left : told ≡ Err f = told_is ∙ ap (beside n) is in rw left tt
get-since ticks at column n place (Ok e) judged told is told_is kind none = by (is_timely ticks at e.time) refl
  where
    by : (b : Bool) → is_timely ticks at e.time ≡ b → IfOk told (λ s. s.0.kind ≡ Get)
    by true k = let kept : told ≡ Ok (e, n) = told_is ∙ ap (beside n) (rw k at is) in rw kept (kind none)
    by false k = let left : told ≡ beside n (Err (Column column part.Time)) = told_is ∙ ap (beside n) (rw k at is) in rw left tt

-- a fault of the log is none of memory
pub log-not-memory : (e : ImportFault) → IsOfLog e → e ≢ fault.Memory
log-not-memory e h is = subst IsOfLog is h
