-- How what has come of a log of fields grows by a record, where its trace goes out as it is read.
use Rattle.std.proofs.Common.{◌≡◌, ◌+◌, ◌∙◌, ◌⊎◌, ℕ, List, [], ◌∷◌, ◌++◌, Bool, true, false, Option, Some, None, Ok, Err, fold, length, map, refl, sym, ap, subst, arith}
use Rattle.std.specs.Prelude.{IfOk, IfSome, Result, unwrap_or}
use Rattle.std.specs.Result.{result_ok}
use Rattle.std.specs.Io.KnownBytes.{Appends}
use Rattle.std.specs.List.{position_or_len}
use Rattle.std.proofs.lemmas.List.{append-nil, length-map, length_push}
use Rattle.std.proofs.lemmas.List.Elements.{filter_map-append}
use Rattle.rw_trace.specs.Pieces.{Gives, GivesNone, records_ahead}
use Rattle.rw_trace.specs.Words.{Fields, Text}
use Rattle.rw_trace.specs.declared.Kind.TheVariants.{Get}
use Rattle.rw_trace.specs.declared.Row.{Row}
use Rattle.rw_import.specs.Csv.{beside, different, entry_of, field_in, is_same_text, number_among, objects_in, record_said, with_text}
use Rattle.rw_import.specs.CsvStream.{HasReadCsv, TellsRecord, records_rows, records_told}
use Rattle.rw_import.specs.Log.{Said, Saying, kept_in, row_for, rows_for}
use Rattle.rw_import.specs.Sheet.{IsKeepable, numbered_by, texts_in, with_kept}
use Rattle.rw_import.specs.Stream.{AddsLine, HasSentWhole, IsFresh, IsStreamOf, AreWholeLines, KeepsCounts, ReadsUpTo, RefusesLine, SendsAllOrNone, entry_since}
use Rattle.rw_import.specs.Streamed.{IsFirstRefused, epoch_of, or_said}
use Rattle.rw_import.specs.Written.{is_purging}
use Rattle.rw_import.specs.declared.csv_stream.Log.{Log}
use Rattle.rw_import.specs.declared.entry.Entry.{Entry}
use Rattle.rw_import.specs.declared.fault.Flaw.{Flaw}
use Rattle.rw_import.specs.declared.fault.ImportFault.{ImportFault}
use Rattle.rw_import.specs.declared.layout.Places.{Places}
use Rattle.rw_import.specs.declared.options.Options.{Options}
use Rattle.rw_import.specs.declared.stream.Stream.{Stream}
use Rattle.rw_import.proofs.Collecting.{objects-kept, objects-left, rows-renumber}
use Rattle.rw_import.proofs.Sheets.{row-fine, rows-push}
use Rattle.rw_import.proofs.Streams.{next-before, next-epoch, next-rest, next-told, passed-all, passed-if, passed-more, passed-none, rows-epoch, since-beside, stream-keeps, stream-kept, stream-left, stream-none, stream-refuses, stream-sends}
use Rattle.rw_import.proofs.Texts.{different-push, number-new, numbers-stay}

-- of the records before, those that are not ahead are seen: what has come of them
pub record IsReading (p : Places) (edges : ℕ) (o : Options) (asked : Option ℕ) (before ahead : Option (List Fields)) (base now : Option Text) (row : ℕ) (texts : List Text) (kinds : Bool) (s : Stream) : Type 0 where
  pub seen : List Fields
  pub passed : ReadsUpTo before seen ahead
  pub count : length seen ≡ row
  pub epoch : s.epoch ≡ fold or_said asked (map (record_said p edges) seen)
  pub texts_are : texts ≡ different (objects_in (records_told p edges o asked seen))
  pub gone : Text
  pub gained : Appends base now gone
  pub stream : IsStreamOf edges o (records_rows p edges o asked seen) (records_told p edges o asked seen) gone s
  pub same_kinds : s.kinds ≡ kinds

-- a number beside an entry is that of any text
beside-number : (n : ℕ) (t : Text) (r : Result Entry Flaw) → beside n r ≡ numbered_by (λ _. n) (beside t r)
beside-number n t (Ok e) = refl
beside-number n t (Err f) = refl

module _ (p : Places) (edges : ℕ) (o : Options) (asked : Option ℕ) where
  -- nothing is seen yet
  pub reading-none : (before : Option (List Fields)) (base : Option Text) (texts : List Text) (s : Stream) → Appends base base [] → texts ≡ [] → asked ≡ s.epoch → IsFresh s
      → IsReading p edges o asked before before base base 0 texts s.kinds s
  unfolding rows_for
  reading-none before base texts s keeps none epoch fresh = record {
    seen = [];
    passed = passed-none before;
    count = refl;
    epoch = sym epoch;
    texts_are = none;
    gone = [];
    gained = keeps;
    stream = stream-none edges o s fresh;
    same_kinds = refl;
  }

  -- all that there is has been seen
  pub reading-all : {R : Type 0} (rem : R → Option Text) (log : Log R) (base now : Option Text) (ahead : Option (List Fields)) (row : ℕ) (texts : List Text) (old s new : Stream)
      → IsReading p edges o asked (records_ahead rem log.reader) ahead base now row texts old.kinds s → p ≡ log.places → edges ≡ log.edges → asked ≡ old.epoch
      → GivesNone ahead → s.text.items ≡ new.text.items → new.begun ≡ s.begun → KeepsCounts s new → HasReadCsv rem o log base now old new
  reading-all rem log base now ahead row texts old s new k is_p is_edges is_asked none text begun keeps =
      let stream : IsStreamOf log.edges o (records_rows log.places log.edges o old.epoch k.seen) (records_told log.places log.edges o old.epoch k.seen) k.gone new =
      subst (λ (q : Places). IsStreamOf log.edges o (records_rows q log.edges o old.epoch k.seen) (records_told q log.edges o old.epoch k.seen) k.gone new) is_p
      (subst (λ (n : ℕ). IsStreamOf n o (records_rows p n o old.epoch k.seen) (records_told p n o old.epoch k.seen) k.gone new) is_edges
      (subst (λ (e : Option ℕ). IsStreamOf edges o (records_rows p edges o e k.seen) (records_told p edges o e k.seen) k.gone new) is_asked
      (stream-keeps edges o (records_rows p edges o asked k.seen) (records_told p edges o asked k.seen) k.gone s new text begun keeps k.stream))) in
      record {
        seen = k.seen;
        all = passed-all (records_ahead rem log.reader) ahead k.seen k.passed none;
        gone = k.gone;
        gained = k.gained;
        stream = stream;
        kinds = keeps.kinds ∙ k.same_kinds;
      }

  module _ (seen : List Fields) (fields : Fields) where
    abbrev said : List (Saying Text)
    said = map (record_said p edges) seen

    abbrev text : Text
    text = field_in fields p.object

    abbrev more : List Fields
    more = seen ++ fields ∷ []

    abbrev done : List (Saying Text)
    done = records_told p edges o asked seen

    abbrev epoch : ℕ
    epoch = epoch_of asked (map (record_said p edges) more)

    -- what becomes of the records, with the next one
    told-next : (judged : Result Entry Flaw) (at : ℕ) → at ≡ epoch → judged ≡ entry_since o.ticks at p.time (entry_of p edges fields) → records_told p edges o asked more ≡ done ++ beside text judged ∷ []
    told-next judged at its is = next-told (record_said p edges) o.ticks p.time asked seen fields at (beside text judged) its (ap (λ (r : Result Entry Flaw). beside text r) is ∙ sym (since-beside o.ticks at p.time text (entry_of p edges fields)))

    -- and with others behind it
    told-rest : (judged : Result Entry Flaw) (at : ℕ) → at ≡ epoch → judged ≡ entry_since o.ticks at p.time (entry_of p edges fields) → (rest : List Fields)
        → (after : List (Saying Text)) × (records_told p edges o asked (seen ++ fields ∷ rest) ≡ done ++ (beside text judged ∷ after))
    told-rest judged at its is rest = next-rest (record_said p edges) o.ticks p.time asked seen fields at (beside text judged) its (ap (λ (r : Result Entry Flaw). beside text r) is ∙ sym (since-beside o.ticks at p.time text (entry_of p edges fields))) rest

    -- none is kept before it, or the epoch is known
    epoch-before : (kept_in done ≡ []) ⊎ (epoch ≡ epoch_of asked said)
    epoch-before = next-before (record_said p edges) o.ticks p.time asked seen fields

    -- the rows, with one more that is kept
    rows-kept : (e : Entry) (at m n : ℕ) → at ≡ epoch → m ≡ length (kept_in done) → n ≡ number_among (objects_in done ++ text ∷ []) text → records_told p edges o asked more ≡ done ++ Ok (e, text) ∷ []
        → records_rows p edges o asked more ≡ records_rows p edges o asked seen ++ row_for o at m n e ∷ []
    rows-kept e at m n its long num told =
        let objects = objects_in done in
        let before = number_among objects in
        let after = number_among (objects ++ text ∷ []) in
        let kept : kept_in (done ++ Ok (e, text) ∷ []) ≡ kept_in done ++ (e, text) ∷ [] = filter_map-append result_ok done (Ok (e, text) ∷ []) in
        ap (λ (l : List (Saying Text)). rows_for o epoch (number_among (objects_in l)) 0 (kept_in l)) told
        ∙ ap (λ (os : List Text). rows_for o epoch (number_among os) 0 (kept_in (done ++ Ok (e, text) ∷ []))) (objects-kept done e text)
        ∙ ap (λ (ks : List (Said Text)). rows_for o epoch after 0 ks) kept
        ∙ rows-push o epoch after 0 (kept_in done) (e, text) m (omega arith)
        ∙ ap (λ (rs : List Row). rs ++ row_for o epoch m (after text) e ∷ []) (sym (rows-renumber o epoch before after 0 (kept_in done) (numbers-stay objects (text ∷ []))) ∙ rows-epoch o epoch (epoch_of asked said) before (kept_in done) epoch-before)
        ∙ ap (λ (t : ℕ). records_rows p edges o asked seen ++ row_for o t m (after text) e ∷ []) (sym its)
        ∙ ap (λ (k : ℕ). records_rows p edges o asked seen ++ row_for o at m k e ∷ []) (sym num)

    -- and with one more that is left out
    rows-left : (f : Flaw) → records_told p edges o asked more ≡ done ++ Err f ∷ [] → records_rows p edges o asked more ≡ records_rows p edges o asked seen
    rows-left f told =
        let kept : kept_in (done ++ Err f ∷ []) ≡ kept_in done = filter_map-append result_ok done (Err f ∷ []) ∙ append-nil (kept_in done) in
        ap (λ (l : List (Saying Text)). rows_for o epoch (number_among (objects_in l)) 0 (kept_in l)) told
        ∙ ap (λ (os : List Text). rows_for o epoch (number_among os) 0 (kept_in (done ++ Err f ∷ []))) (objects-left done f)
        ∙ ap (λ (ks : List (Said Text)). rows_for o epoch (number_among (objects_in done)) 0 ks) kept
        ∙ rows-epoch o epoch (epoch_of asked said) (number_among (objects_in done)) (kept_in done) epoch-before

    -- the stream and the texts, with the next record
    grows : (judged : Result Entry Flaw) (at : ℕ) (texts : List Text) (gone : Text) (old new : Stream) → at ≡ epoch → unwrap_or old.epoch 0 ≡ at → judged ≡ entry_since o.ticks at p.time (entry_of p edges fields)
        → texts ≡ different (objects_in done) → IsStreamOf edges o (records_rows p edges o asked seen) done gone old
        → IsKeepable edges o at (beside (position_or_len (is_same_text text) texts) judged)
        → IfOk (beside (position_or_len (is_same_text text) texts) judged) (λ s. is_purging s.0.kind ≡ true → old.kinds ≡ true)
        → AddsLine o old new (beside (position_or_len (is_same_text text) texts) judged)
        → (with_kept texts text judged ≡ different (objects_in (records_told p edges o asked more))) × IsStreamOf edges o (records_rows p edges o asked more) (records_told p edges o asked more) gone new
    grows (Ok e) at texts gone old new its known is are k fine named adds =
        let n = position_or_len (is_same_text text) texts in
        let told : records_told p edges o asked more ≡ done ++ Ok (e, text) ∷ [] = told-next (Ok e) at its is in
        let num : n ≡ number_among (objects_in done ++ text ∷ []) text = ap (λ (ts : List Text). position_or_len (is_same_text text) ts) are ∙ sym (number-new (objects_in done) text) in
        let row = row_for o at old.kept n e in
        let rows : records_rows p edges o asked more ≡ records_rows p edges o asked seen ++ row ∷ [] = rows-kept e at old.kept n its k.kept num told in
        let stream : IsStreamOf edges o (records_rows p edges o asked seen ++ row ∷ []) (done ++ Ok (e, text) ∷ []) gone new =
        stream-kept edges o (records_rows p edges o asked seen) done gone old new e text n row k adds (ap (λ (t : ℕ). row_for o t old.kept n e) (sym known)) (λ some. row-fine edges o at old.kept (e, n) some fine) named in (
          ap (λ (ts : List Text). with_text ts text) are ∙ sym (different-push (objects_in done) text) ∙ ap different (sym (ap objects_in told ∙ objects-kept done e text)),
          subst (λ (rs : List Row). IsStreamOf edges o rs (records_told p edges o asked more) gone new) (sym rows)
              (subst (λ (ts : List (Saying Text)). IsStreamOf edges o (records_rows p edges o asked seen ++ row ∷ []) ts gone new) (sym told) stream),
        )
    grows (Err f) at texts gone old new its known is are k fine named adds =
        let told : records_told p edges o asked more ≡ done ++ Err f ∷ [] = told-next (Err f) at its is in
        let rows : records_rows p edges o asked more ≡ records_rows p edges o asked seen = rows-left f told in
        let stream : IsStreamOf edges o (records_rows p edges o asked seen) (done ++ Err f ∷ []) gone new = stream-left edges o (records_rows p edges o asked seen) done gone old new f k adds in (
          are ∙ ap different (sym (ap objects_in told ∙ objects-left done f)),
          subst (λ (rs : List Row). IsStreamOf edges o rs (records_told p edges o asked more) gone new) (sym rows)
              (subst (λ (ts : List (Saying Text)). IsStreamOf edges o (records_rows p edges o asked seen) ts gone new) (sym told) stream),
        )

  -- what is known of the next record
  pub record IsNext (now after : Option (List Fields)) (known then : Option ℕ) (texts others : List Text) (kinds : Bool) (told : Saying ℕ) : Type 0 where
    pub fields : Fields
    pub gives : Gives now fields after
    pub then_is : then ≡ or_said known (record_said p edges fields)
    pub told_is : told ≡ beside (position_or_len (is_same_text (field_in fields p.object)) texts) (entry_since o.ticks (unwrap_or then 0) p.time (entry_of p edges fields))
    pub others_are : others ≡ with_kept texts (field_in fields p.object) (entry_since o.ticks (unwrap_or then 0) p.time (entry_of p edges fields))
    pub keepable : IsKeepable edges o (unwrap_or then 0) told
    pub named : IfOk told (λ s. is_purging s.0.kind ≡ true → kinds ≡ true)

  -- one more record is kept or left out, and lines may go out
  pub reading-more : (before now after : Option (List Fields)) (base mid last : Option Text) (row : ℕ) (texts others : List Text) (kinds : Bool) (s told new sent : Stream) (x : Saying ℕ)
      → IsReading p edges o asked before now base mid row texts kinds s → IsNext now after s.epoch told.epoch texts others kinds x
      → s.text.items ≡ told.text.items → told.begun ≡ s.begun → KeepsCounts s told → AddsLine o told new x → SendsAllOrNone mid last new sent → new.epoch ≡ told.epoch → sent.epoch ≡ new.epoch → sent.kinds ≡ s.kinds
      → IsReading p edges o asked before after base last (row + 1) others kinds sent
  reading-more before now after base mid last row texts others kinds s told new sent x k n same begun keeps adds sends e1 e2 e3 =
      let seen = k.seen in
      let fields = n.fields in
      let epoch = next-epoch (record_said p edges) o.ticks p.time asked seen fields s.epoch told.epoch k.epoch n.then_is in
      let at = unwrap_or told.epoch 0 in
      let judged = entry_since o.ticks at p.time (entry_of p edges fields) in
      let its : at ≡ epoch_of asked (map (record_said p edges) (seen ++ fields ∷ [])) = ap (λ (u : Option ℕ). unwrap_or u 0) epoch in
      let kinds_are : kinds ≡ told.kinds = sym k.same_kinds ∙ sym keeps.kinds in
      let fine = subst (IsKeepable edges o at) n.told_is n.keepable in
      let named = subst (λ (b : Bool). IfOk (beside (position_or_len (is_same_text (field_in fields p.object)) texts) judged) (λ y. is_purging y.0.kind ≡ true → b ≡ true)) kinds_are
      (subst (λ (y : Saying ℕ). IfOk y (λ z. is_purging z.0.kind ≡ true → kinds ≡ true)) n.told_is n.named) in
      let grown = grows seen fields judged at texts k.gone told new its refl refl k.texts_are (stream-keeps edges o (records_rows p edges o asked seen) (records_told p edges o asked seen) k.gone s told same begun keeps k.stream) fine named (subst (AddsLine o told new) n.told_is adds) in
      let (gone, gained, stream) = stream-sends edges o (records_rows p edges o asked (seen ++ fields ∷ [])) (records_told p edges o asked (seen ++ fields ∷ [])) k.gone new sent base mid last k.gained sends grown.1 in
      record {
        seen = seen ++ fields ∷ [];
        passed = passed-more before now after seen fields k.passed n.gives;
        count = rw length_push (ap (λ (m : ℕ). m + 1) k.count);
        epoch = e2 ∙ e1 ∙ epoch;
        texts_are = n.others_are ∙ grown.0;
        gone = gone;
        gained = gained;
        stream = stream;
        same_kinds = e3 ∙ k.same_kinds;
      }

  -- one more record is refused
  pub reading-refuses : (before now after : Option (List Fields)) (base mid : Option Text) (row : ℕ) (texts others : List Text) (kinds : Bool) (s told : Stream) (x : Saying ℕ) (e : ImportFault)
      → IsReading p edges o asked before now base mid row texts kinds s → IsNext now after s.epoch told.epoch texts others kinds x → s.text.items ≡ told.text.items → told.begun ≡ s.begun → KeepsCounts s told → RefusesLine o row told x e
      → IfSome before (λ all. IsFirstRefused o (records_told p edges o asked all) e)
  reading-refuses before now after base mid row texts others kinds s told x e k n same begun keeps refuses =
      let seen = k.seen in
      let fields = n.fields in
      let at = unwrap_or told.epoch 0 in
      let judged = entry_since o.ticks at p.time (entry_of p edges fields) in
      let its : at ≡ epoch_of asked (map (record_said p edges) (seen ++ fields ∷ [])) = ap (λ (u : Option ℕ). unwrap_or u 0) (next-epoch (record_said p edges) o.ticks p.time asked seen fields s.epoch told.epoch k.epoch n.then_is) in
      let stream = stream-keeps edges o (records_rows p edges o asked seen) (records_told p edges o asked seen) k.gone s told same begun keeps k.stream in
      passed-if (λ all. IsFirstRefused o (records_told p edges o asked all) e) before now after seen fields k.passed n.gives (λ rest.
      let (behind, parts) = told-rest seen fields judged at its refl rest in
      record {
        before = records_told p edges o asked seen;
        row = beside (field_in fields p.object) judged;
        after = behind;
        parts = parts;
        taken = stream.taken;
        refused = stream-refuses edges o (records_rows p edges o asked seen) (records_told p edges o asked seen) k.gone told told (λ _. position_or_len (is_same_text (field_in fields p.object)) texts) (beside (field_in fields p.object) judged) row e stream
            (length-map (map (record_said p edges) seen) _ ∙ length-map seen _ ∙ k.count)
            (subst (λ (y : Saying ℕ). RefusesLine o row told y e) (n.told_is ∙ beside-number (position_or_len (is_same_text (field_in fields p.object)) texts) (field_in fields p.object) judged) refuses);
      })

-- ---- the next record
or-beside : {A B : Type 0} (known : Option ℕ) (a : A) (b : B) (r : Result Entry Flaw) → or_said known (beside a r) ≡ or_said known (beside b r)
or-beside (Some t) a b r = refl
or-beside None a b (Ok e) = refl
or-beside None a b (Err f) = refl

pub told-record : {R : Type 0} (rem : R → Option Text) (o : Options) (old new : Log R) (known then : Option ℕ) (told : Saying ℕ) (fields : Fields) (said judged : Result Entry Flaw) (object : Text)
    → Gives (records_ahead rem old.reader) fields (records_ahead rem new.reader) → said ≡ entry_of old.places old.edges fields → object ≡ field_in fields old.places.object
    → ((n : ℕ) → then ≡ or_said known (beside n said)) → judged ≡ entry_since o.ticks (unwrap_or then 0) old.places.time said
    → told ≡ beside (position_or_len (is_same_text object) (texts_in old.texts)) judged → texts_in new.texts ≡ with_kept (texts_in old.texts) object judged
    → ((old.places.edge ≡ None → o.edges ≡ old.edges) → IsKeepable old.edges o (unwrap_or then 0) told) → (old.places.kind ≡ None → IfOk told (λ s. s.0.kind ≡ Get))
    → TellsRecord rem o old new known then told
told-record rem o old new known then told fields said judged object gives is text_is epoch judges told_is texts keepable kind =
    let p = old.places in
    let texts0 = texts_in old.texts in
    let judged_is : judged ≡ entry_since o.ticks (unwrap_or then 0) p.time (entry_of p old.edges fields) = judges ∙ ap (λ (r : Result Entry Flaw). entry_since o.ticks (unwrap_or then 0) p.time r) is in
    record {
      fields = fields;
      gives = gives;
      epoch = epoch 0 ∙ or-beside known 0 (field_in fields p.object) said ∙ ap (λ (r : Result Entry Flaw). or_said known (beside (field_in fields p.object) r)) is;
      is = told_is ∙ ap (λ (t : Text). beside (position_or_len (is_same_text t) texts0) judged) text_is ∙ ap (λ (r : Result Entry Flaw). beside (position_or_len (is_same_text (field_in fields p.object)) texts0) r) judged_is;
      texts = texts ∙ ap (λ (t : Text). with_kept texts0 t judged) text_is ∙ ap (λ (r : Result Entry Flaw). with_kept texts0 (field_in fields p.object) r) judged_is;
      keepable = keepable;
      kind = kind;
    }

named-by : (kinds : Bool) (told : Saying ℕ) → (kinds ≡ false → IfOk told (λ s. s.0.kind ≡ Get)) → IfOk told (λ s. is_purging s.0.kind ≡ true → kinds ≡ true)
named-by kinds (Err f) h = tt
named-by true (Ok s) h = λ _. refl
named-by false (Ok s) h = λ purge. let get : s.0.kind ≡ Get = h refl in let no = rw get at purge in absurd (cc no)

pub is-next : {R : Type 0} (rem : R → Option Text) (p : Places) (edges : ℕ) (o : Options) (start : Option ℕ) (old new : Log R) (known then : Option ℕ) (kinds : Bool) (told : Saying ℕ) → old.places ≡ p → old.edges ≡ edges
    → (p.edge ≡ None → o.edges ≡ edges) → (kinds ≡ false → p.kind ≡ None) → TellsRecord rem o old new known then told
    → IsNext p edges o start (records_ahead rem old.reader) (records_ahead rem new.reader) known then (texts_in old.texts) (texts_in new.texts) kinds told
is-next rem p edges o start old new known then kinds told is_p is_edges asked named t =
    let a = records_ahead rem old.reader in
    let b = records_ahead rem new.reader in
    let here : IsNext old.places old.edges o start a b known then (texts_in old.texts) (texts_in new.texts) kinds told = record {
      fields = t.fields;
      gives = t.gives;
      then_is = t.epoch;
      told_is = t.is;
      others_are = t.texts;
      keepable = t.keepable (λ none. asked (ap (λ (q : Places). q.edge) (sym is_p) ∙ none) ∙ sym is_edges);
      named = named-by kinds told (λ off. t.kind (ap (λ (q : Places). q.kind) is_p ∙ named off));
    } in
    subst (λ (q : Places). IsNext q edges o start a b known then (texts_in old.texts) (texts_in new.texts) kinds told) is_p
    (subst (λ (n : ℕ). IsNext old.places n o start a b known then (texts_in old.texts) (texts_in new.texts) kinds told) is_edges here)

-- what has gone out so far is whole
pub reading-sent : (p : Places) (edges : ℕ) (o : Options) (asked : Option ℕ) (before ahead : Option (List Fields)) (base now : Option Text) (row : ℕ) (texts : List Text) (kinds : Bool) (s : Stream) → IsReading p edges o asked before ahead base now row texts kinds s → HasSentWhole edges s.begun kinds base now
reading-sent p edges o asked before ahead base now row texts kinds s k = record { gone = k.gone; gained = k.gained; whole = subst (λ (b : Bool). AreWholeLines edges s.begun b k.gone) k.same_kinds k.stream.whole }
