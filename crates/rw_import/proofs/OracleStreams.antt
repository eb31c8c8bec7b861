-- How what has come of a log in the oracle-general format grows by a record, where its trace goes out as it is read.
use Rattle.std.proofs.Common.{◌≡◌, ◌+◌, ◌∙◌, ℕ, List, [], ◌∷◌, ◌++◌, Bool, true, Option, Ok, Err, fold, length, map, refl, sym, ap, subst, arith}
use Rattle.std.specs.Prelude.{IfOk, IfSome, unwrap_or}
use Rattle.std.specs.Result.{result_ok}
use Rattle.std.specs.Io.KnownBytes.{Appends}
use Rattle.std.proofs.lemmas.List.{append-nil, length-map, length_push}
use Rattle.std.proofs.lemmas.List.Elements.{filter_map-append}
use Rattle.rw_trace.specs.Pieces.{GivesNone}
use Rattle.rw_trace.specs.Words.{Text}
use Rattle.rw_trace.specs.declared.Kind.TheVariants.{Get}
use Rattle.rw_trace.specs.declared.Row.{Row}
use Rattle.rw_import.specs.Log.{Said, Saying, kept_in, row_for, rows_for}
use Rattle.rw_import.specs.Oracle.{piece_said}
use Rattle.rw_import.specs.OracleStream.{HasReadOracle, TellsPiece, pieces_ahead, pieces_rows, pieces_told}
use Rattle.rw_import.specs.Sheet.{IsKeepable}
use Rattle.rw_import.specs.Stream.{AddsLine, HasSentWhole, IsFresh, IsStreamOf, AreWholeLines, KeepsCounts, ReadsUpTo, RefusesLine, SendsAllOrNone}
use Rattle.rw_import.specs.Streamed.{IsFirstRefused, epoch_of, or_said}
use Rattle.rw_import.specs.Written.{is_purging}
use Rattle.rw_import.specs.declared.fault.Flaw.{Flaw}
use Rattle.rw_import.specs.declared.fault.ImportFault.{ImportFault}
use Rattle.rw_import.specs.declared.options.Options.{Options}
use Rattle.rw_import.specs.declared.stream.Stream.{Stream}
use Rattle.rw_import.proofs.Sheets.{itself, row-fine, rows-push, same-number}
use Rattle.rw_import.proofs.Streams.{next-before, next-epoch, next-rest, next-told, passed-all, passed-if, passed-more, passed-none, rows-epoch, stream-keeps, stream-kept, stream-left, stream-none, stream-refuses, stream-sends}

-- of the records before, those that are not ahead are seen: what has come of them
pub record IsReadingPieces (o : Options) (asked : Option ℕ) (before ahead : Option (List Text)) (base now : Option Text) (row : ℕ) (kinds : Bool) (s : Stream) : Type 0 where
  pub seen : List Text
  pub passed : ReadsUpTo before seen ahead
  pub count : length seen ≡ row
  pub epoch : s.epoch ≡ fold or_said asked (map piece_said seen)
  pub gone : Text
  pub gained : Appends base now gone
  pub stream : IsStreamOf o.edges o (pieces_rows o asked seen) (pieces_told o asked seen) gone s
  pub same_kinds : s.kinds ≡ kinds

-- a get is no purge
get-named : (kinds : Bool) (s : Saying ℕ) → IfOk s (λ x. x.0.kind ≡ Get) → IfOk s (λ x. is_purging x.0.kind ≡ true → kinds ≡ true)
get-named kinds (Err f) h = tt
get-named kinds (Ok x) h = λ purge. let no = rw h at purge in absurd (cc no)

module _ (o : Options) (asked : Option ℕ) where
  -- nothing is seen yet
  pub pieces-none : (before : Option (List Text)) (base : Option Text) (s : Stream) → Appends base base [] → asked ≡ s.epoch → IsFresh s → IsReadingPieces o asked before before base base 0 s.kinds s
  unfolding rows_for
  pieces-none before base s keeps epoch fresh = record {
    seen = [];
    passed = passed-none before;
    count = refl;
    epoch = sym epoch;
    gone = [];
    gained = keeps;
    stream = stream-none o.edges o s fresh;
    same_kinds = refl;
  }

  -- all that there is has been seen
  pub pieces-all : (known base now : Option Text) (ahead : Option (List Text)) (row : ℕ) (old s new : Stream) → IsReadingPieces o asked (pieces_ahead known) ahead base now row old.kinds s → asked ≡ old.epoch
      → GivesNone ahead → s.text.items ≡ new.text.items → new.begun ≡ s.begun → KeepsCounts s new → HasReadOracle o known base now old new
  pieces-all known base now ahead row old s new k is_asked none text begun keeps = record {
    seen = k.seen;
    all = passed-all (pieces_ahead known) ahead k.seen k.passed none;
    gone = k.gone;
    gained = k.gained;
    stream = subst (λ (e : Option ℕ). IsStreamOf o.edges o (pieces_rows o e k.seen) (pieces_told o e k.seen) k.gone new) is_asked
        (stream-keeps o.edges o (pieces_rows o asked k.seen) (pieces_told o asked k.seen) k.gone s new text begun keeps k.stream);
    kinds = keeps.kinds ∙ k.same_kinds;
  }

  module _ (seen : List Text) (piece : Text) where
    abbrev more : List Text
    more = seen ++ piece ∷ []

    abbrev done : List (Saying ℕ)
    done = pieces_told o asked seen

    abbrev epoch : ℕ
    epoch = epoch_of asked (map piece_said more)

    -- the rows, with one more that is kept
    rows-kept : (s : Said ℕ) (at m : ℕ) → at ≡ epoch → m ≡ length (kept_in done) → pieces_told o asked more ≡ done ++ Ok s ∷ [] → pieces_rows o asked more ≡ pieces_rows o asked seen ++ row_for o at m s.1 s.0 ∷ []
    rows-kept s at m its long told =
        let kept : kept_in (done ++ Ok s ∷ []) ≡ kept_in done ++ s ∷ [] = filter_map-append result_ok done (Ok s ∷ []) in
        ap (λ (l : List (Saying ℕ)). rows_for o epoch (λ n. n) 0 (kept_in l)) told
        ∙ ap (λ (ks : List (Said ℕ)). rows_for o epoch (λ n. n) 0 ks) kept
        ∙ rows-push o epoch (λ n. n) 0 (kept_in done) s m (omega arith)
        ∙ ap (λ (rs : List Row). rs ++ row_for o epoch m s.1 s.0 ∷ []) (rows-epoch o epoch (epoch_of asked (map piece_said seen)) (λ n. n) (kept_in done) (next-before piece_said o.ticks 0 asked seen piece))
        ∙ ap (λ (t : ℕ). pieces_rows o asked seen ++ row_for o t m s.1 s.0 ∷ []) (sym its)

    -- and with one more that is left out
    rows-left : (f : Flaw) → pieces_told o asked more ≡ done ++ Err f ∷ [] → pieces_rows o asked more ≡ pieces_rows o asked seen
    rows-left f told =
        let kept : kept_in (done ++ Err f ∷ []) ≡ kept_in done = filter_map-append result_ok done (Err f ∷ []) ∙ append-nil (kept_in done) in
        ap (λ (l : List (Saying ℕ)). rows_for o epoch (λ n. n) 0 (kept_in l)) told
        ∙ ap (λ (ks : List (Said ℕ)). rows_for o epoch (λ n. n) 0 ks) kept
        ∙ rows-epoch o epoch (epoch_of asked (map piece_said seen)) (λ n. n) (kept_in done) (next-before piece_said o.ticks 0 asked seen piece)

    -- the stream, with the next record
    grows : (s : Saying ℕ) (at : ℕ) (gone : Text) (old new : Stream) → at ≡ epoch → unwrap_or old.epoch 0 ≡ at → pieces_told o asked more ≡ done ++ s ∷ [] → IsStreamOf o.edges o (pieces_rows o asked seen) done gone old
        → IsKeepable o.edges o at s → IfOk s (λ x. is_purging x.0.kind ≡ true → old.kinds ≡ true) → AddsLine o old new s → IsStreamOf o.edges o (pieces_rows o asked more) (pieces_told o asked more) gone new
    grows (Ok s) at gone old new its known told k fine named adds =
        let row = row_for o at old.kept s.1 s.0 in
        let rows : pieces_rows o asked more ≡ pieces_rows o asked seen ++ row ∷ [] = rows-kept s at old.kept its k.kept told in
        let stream : IsStreamOf o.edges o (pieces_rows o asked seen ++ row ∷ []) (done ++ Ok s ∷ []) gone new =
        stream-kept o.edges o (pieces_rows o asked seen) done gone old new s.0 s.1 s.1 row k adds (ap (λ (t : ℕ). row_for o t old.kept s.1 s.0) (sym known)) (λ some. row-fine o.edges o at old.kept s some fine) named in
        subst (λ (rs : List Row). IsStreamOf o.edges o rs (pieces_told o asked more) gone new) (sym rows)
        (subst (λ (ts : List (Saying ℕ)). IsStreamOf o.edges o (pieces_rows o asked seen ++ row ∷ []) ts gone new) (sym told) stream)
    grows (Err f) at gone old new its known told k fine named adds =
        let rows : pieces_rows o asked more ≡ pieces_rows o asked seen = rows-left f told in
        let stream : IsStreamOf o.edges o (pieces_rows o asked seen) (done ++ Err f ∷ []) gone new = stream-left o.edges o (pieces_rows o asked seen) done gone old new f k adds in
        subst (λ (rs : List Row). IsStreamOf o.edges o rs (pieces_told o asked more) gone new) (sym rows)
        (subst (λ (ts : List (Saying ℕ)). IsStreamOf o.edges o (pieces_rows o asked seen) ts gone new) (sym told) stream)

  -- one more record is kept or left out, and lines may go out
  pub pieces-more : (before : Option (List Text)) (now after base mid last : Option Text) (row : ℕ) (kinds : Bool) (s told new sent : Stream) (x : Saying ℕ)
      → IsReadingPieces o asked before (pieces_ahead now) base mid row kinds s → TellsPiece o now after s.epoch told.epoch x
      → s.text.items ≡ told.text.items → told.begun ≡ s.begun → KeepsCounts s told → AddsLine o told new x → SendsAllOrNone mid last new sent → new.epoch ≡ told.epoch → sent.epoch ≡ new.epoch → sent.kinds ≡ s.kinds
      → IsReadingPieces o asked before (pieces_ahead after) base last (row + 1) kinds sent
  pieces-more before now after base mid last row kinds s told new sent x k n same begun keeps adds sends e1 e2 e3 =
      let seen = k.seen in
      let piece = n.piece in
      let epoch = next-epoch piece_said o.ticks 0 asked seen piece s.epoch told.epoch k.epoch n.epoch in
      let at = unwrap_or told.epoch 0 in
      let its : at ≡ epoch_of asked (map piece_said (seen ++ piece ∷ [])) = ap (λ (u : Option ℕ). unwrap_or u 0) epoch in
      let tells : pieces_told o asked (seen ++ piece ∷ []) ≡ pieces_told o asked seen ++ x ∷ [] = next-told piece_said o.ticks 0 asked seen piece at x its n.is in
      let grown = grows seen piece x at k.gone told new its refl tells (stream-keeps o.edges o (pieces_rows o asked seen) (pieces_told o asked seen) k.gone s told same begun keeps k.stream) n.keepable (get-named told.kinds x n.get) adds in
      let (gone, gained, stream) = stream-sends o.edges o (pieces_rows o asked (seen ++ piece ∷ [])) (pieces_told o asked (seen ++ piece ∷ [])) k.gone new sent base mid last k.gained sends grown in
      record {
        seen = seen ++ piece ∷ [];
        passed = passed-more before (pieces_ahead now) (pieces_ahead after) seen piece k.passed n.gives;
        count = rw length_push (ap (λ (m : ℕ). m + 1) k.count);
        epoch = e2 ∙ e1 ∙ epoch;
        gone = gone;
        gained = gained;
        stream = stream;
        same_kinds = e3 ∙ k.same_kinds;
      }

  -- one more record is refused
  pub pieces-refuses : (before : Option (List Text)) (now after base mid : Option Text) (row : ℕ) (kinds : Bool) (s told : Stream) (x : Saying ℕ) (e : ImportFault)
      → IsReadingPieces o asked before (pieces_ahead now) base mid row kinds s → TellsPiece o now after s.epoch told.epoch x → s.text.items ≡ told.text.items → told.begun ≡ s.begun → KeepsCounts s told → RefusesLine o row told x e
      → IfSome before (λ all. IsFirstRefused o (pieces_told o asked all) e)
  pieces-refuses before now after base mid row kinds s told x e k n same begun keeps refuses =
      let seen = k.seen in
      let piece = n.piece in
      let at = unwrap_or told.epoch 0 in
      let its : at ≡ epoch_of asked (map piece_said (seen ++ piece ∷ [])) = ap (λ (u : Option ℕ). unwrap_or u 0) (next-epoch piece_said o.ticks 0 asked seen piece s.epoch told.epoch k.epoch n.epoch) in
      let stream = stream-keeps o.edges o (pieces_rows o asked seen) (pieces_told o asked seen) k.gone s told same begun keeps k.stream in
      passed-if (λ all. IsFirstRefused o (pieces_told o asked all) e) before (pieces_ahead now) (pieces_ahead after) seen piece k.passed n.gives (λ rest.
      let (behind, parts) = next-rest piece_said o.ticks 0 asked seen piece at x its n.is rest in
      record {
        before = pieces_told o asked seen;
        row = x;
        after = behind;
        parts = parts;
        taken = stream.taken;
        refused = stream-refuses o.edges o (pieces_rows o asked seen) (pieces_told o asked seen) k.gone told told itself x row e stream
            (length-map (map piece_said seen) _ ∙ length-map seen _ ∙ k.count)
            (subst (λ (y : Saying ℕ). RefusesLine o row told y e) (sym (same-number x)) refuses);
      })

-- what has gone out so far is whole
pub reading-sent : (o : Options) (asked : Option ℕ) (before ahead : Option (List Text)) (base now : Option Text) (row : ℕ) (kinds : Bool) (s : Stream) → IsReadingPieces o asked before ahead base now row kinds s → HasSentWhole o.edges s.begun kinds base now
reading-sent o asked before ahead base now row kinds s k = record { gone = k.gone; gained = k.gained; whole = subst (λ (b : Bool). AreWholeLines o.edges s.begun b k.gone) k.same_kinds k.stream.whole }
