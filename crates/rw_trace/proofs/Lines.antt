-- A plain line is one record, whose fields stand in it between commas.
use Rattle.std.proofs.Common.{All, ◌≡◌, inl, inr, ◌≢◌, ◌≤◌, ◌<◌, ◌+◌, ◌-◌, ◌*◌, ◌^◌, ℕ, List, [], ◌∷◌, ◌++◌, length, drop, take, nat_eq, get_or, Bool, true, false, Option, None, Some, refl, sym, ap, ◌∙◌, arith, add-one, append-nil, append_assoc, length-append, subst, codes}
use Rattle.std.specs.Prelude.{◌==◌, slice_get}
use Rattle.std.specs.Char.{is_ascii_digit, is_ascii_lowercase}
use Rattle.std.specs.Cmp.Lexicographic.{pointwise}
use Rattle.std.specs.List.{AllPass, list_all, starts_with}
use Rattle.std.proofs.lemmas.Grind.{common_steps}
use Rattle.std.proofs.lemmas.List.{drop-append-le, drop-drop, drop_all, drop_more, length-drop, take-append-drop}
use Rattle.std.proofs.lemmas.Bool.Decides.{Decides-eqb}
use Rattle.std.proofs.lemmas.Slice.Eq.{slice_eq-Decides}
use Rattle.std.proofs.lemmas.List.Sums.{AllPass-from_list_all}
use Rattle.std.proofs.lemmas.List.Elements.{All-cons, All-head, All-nil, All-tail, All-weaker}
use Rattle.std.proofs.Math.Nat.{pow-le-pow_right, pow-succ'}
use Rattle.std.proofs.Math.Seq.{take-append_seam}
use Rattle.csv.specs.Machine.{Read, next_record, step}
use Rattle.csv.specs.Reading.{default_config, strip_bom}
use Rattle.csv.specs.Records.{field_at}
use Rattle.csv.specs.declared.parser.Action.TheVariants as act
use Rattle.csv.specs.declared.parser.State.{State}
use Rattle.csv.specs.declared.parser.State.TheVariants as st
use Rattle.rw_trace.proofs.Cut.{unmarked}
use Rattle.rw_trace.proofs.Laws.{none-written, number-law, write-more}
use Rattle.rw_trace.proofs.Numbers.{is-number}
use Rattle.rw_trace.proofs.Records.{left-more, left-none}
use Rattle.rw_trace.specs.Laws.{IsNumber, WriteRows, WritesRow}
use Rattle.rw_trace.specs.Limits.{greatest_size, latest_time}
use Rattle.rw_trace.specs.Lines.{EndsLine, IsEndAt, IsHeaderAt, IsKindAt, IsNumberAndComma, IsNumberAt, IsOrdinary, IsOrdinaryField, IsRowAt, commas, kind_fields, records_at}
use Rattle.rw_trace.specs.Trace.{is_header, is_text_at, value_after, version_of, word_of}
use Rattle.rw_trace.specs.Unread.{records_left, records_of}
use Rattle.rw_trace.specs.declared.Kind.{Kind}
use Rattle.rw_trace.specs.declared.Kind.TheVariants.{Get, Purge}
use Rattle.rw_trace.specs.declared.Row.{Row}
use Rattle.rw_trace.specs.declared.Version.{Version}
use Rattle.rw_trace.specs.declared.Version.TheVariants.{First, Second}

-- in this state a plain byte begins a field, or goes on with one
abbrev Takes : State → Type 0
Takes s = (c : ℕ) → IsOrdinary c → step default_config s c ≡ (st.InField, act.Copy)

no-comma : (c : ℕ) → IsOrdinary c → (c == 44) ≡ false
no-comma c h = let other = h.comma in grind (arith, common_steps)

no-quote : (c : ℕ) → IsOrdinary c → (c == 34) ≡ false
no-quote c h = let other = h.quote in grind (arith, common_steps)

no-return : (c : ℕ) → IsOrdinary c → (c == 13) ≡ false
no-return c h = let other = h.return in grind (arith, common_steps)

no-feed : (c : ℕ) → IsOrdinary c → (c == 10) ≡ false
no-feed c h = let other = h.feed in grind (arith, common_steps)

takes-in : Takes st.InField
takes-in c h = rw (no-comma c h, no-return c h, no-feed c h) refl

takes-field : Takes st.StartField
takes-field c h = rw (no-quote c h, no-comma c h, no-return c h, no-feed c h) refl

takes-record : Takes st.StartRecord
takes-record c h = rw (no-return c h, no-feed c h, no-quote c h, no-comma c h) refl

-- the text's next record from inside a field
abbrev From : List (List ℕ) → List ℕ → List ℕ → Option Read
From fields field xs = next_record default_config st.InField fields field xs

-- plain bytes join the field at hand
bytes-in : (fields : List (List ℕ)) (field f rest : List ℕ) → All IsOrdinary f → From fields field (f ++ rest) ≡ From fields (field ++ f) rest
unfolding next_record
bytes-in fields field [] rest h = ap (λ g. From fields g rest) (sym (append-nil field))
bytes-in fields field (c ∷ f) rest h =
    rw (takes-in c (All-head IsOrdinary c f h))
    (bytes-in fields (field ++ c ∷ []) f rest (All-tail IsOrdinary c f h) ∙ ap (λ g. From fields g rest) (append_assoc field (c ∷ []) f))

-- a plain field begins
field-begins : (s : State) → Takes s → (fields : List (List ℕ)) (f rest : List ℕ) → IsOrdinaryField f → next_record default_config s fields [] (f ++ rest) ≡ From fields f rest
unfolding next_record
field-begins s takes fields [] rest h = let some = h.some in absurd (omega arith)
field-begins s takes fields (c ∷ f) rest h =
    rw (takes c (All-head IsOrdinary c f h.all)) (bytes-in fields (c ∷ []) f rest (All-tail IsOrdinary c f h.all))

-- a comma ends a field
comma : (fields : List (List ℕ)) (field rest : List ℕ) → From fields field (44 ∷ rest) ≡ next_record default_config st.StartField (fields ++ field ∷ []) [] rest
unfolding next_record
comma fields field rest = refl

-- a line feed ends the record
feed : (fields : List (List ℕ)) (field rest : List ℕ) → From fields field (10 ∷ rest) ≡ Some (fields ++ field ∷ [], st.StartRecord, rest)
unfolding next_record
feed fields field rest = refl

-- the fields that are complete, and the one at hand, once more fields have come
abbrev complete : List (List ℕ) → List ℕ → List (List ℕ) → List (List ℕ)
complete before field [] = before
complete before field (f ∷ fs) = complete (before ++ field ∷ []) f fs

abbrev at_hand : List ℕ → List (List ℕ) → List ℕ
at_hand field [] = field
at_hand field (f ∷ fs) = at_hand f fs

all-fields : (before : List (List ℕ)) (field : List ℕ) (fs : List (List ℕ)) → complete before field fs ++ at_hand field fs ∷ [] ≡ before ++ field ∷ fs
all-fields before field [] = refl
all-fields before field (f ∷ fs) = all-fields (before ++ field ∷ []) f fs ∙ append_assoc before (field ∷ []) (f ∷ fs)

-- further fields behind commas
fields-more : (before : List (List ℕ)) (field : List ℕ) (fs : List (List ℕ)) (tail : List ℕ) → All IsOrdinaryField fs
    → From before field (commas fs tail) ≡ From (complete before field fs) (at_hand field fs) tail
fields-more before field [] tail h = refl
fields-more before field (f ∷ fs) tail h =
    comma before field (f ++ commas fs tail)
    ∙ field-begins st.StartField takes-field (before ++ field ∷ []) f (commas fs tail) (All-head IsOrdinaryField f fs h)
    ∙ fields-more (before ++ field ∷ []) f fs tail (All-tail IsOrdinaryField f fs h)

-- the end of the text ends the record
stop : (fields : List (List ℕ)) (field : List ℕ) → From fields field [] ≡ Some (fields ++ field ∷ [], st.StartRecord, [])
unfolding next_record
stop fields field = refl

-- and so does a carriage return
return : (fields : List (List ℕ)) (field rest : List ℕ) → From fields field (13 ∷ rest) ≡ Some (fields ++ field ∷ [], st.AfterCr, rest)
unfolding next_record
return fields field rest = refl

-- behind which a line feed changes nothing
after-return : (rest : List ℕ) → records_left default_config st.AfterCr (Some (10 ∷ rest)) ≡ records_left default_config st.StartRecord (Some rest)
unfolding next_record
after-return rest = by (next_record default_config st.StartRecord [] [] rest) refl
  where
    by : (o : Option Read) → next_record default_config st.StartRecord [] [] rest ≡ o → records_left default_config st.AfterCr (Some (10 ∷ rest)) ≡ records_left default_config st.StartRecord (Some rest)
    by None is = left-none default_config st.AfterCr (10 ∷ rest) is ∙ sym (left-none default_config st.StartRecord rest is)
    by (Some p) is = left-more default_config st.AfterCr (10 ∷ rest) p is ∙ sym (left-more default_config st.StartRecord rest p is)

-- the records of a text that begins with a plain line
pub plain-left : (field : List ℕ) (others : List (List ℕ)) (tail rest : List ℕ) → IsOrdinaryField field → All IsOrdinaryField others → EndsLine tail rest
    → records_left default_config st.StartRecord (Some (field ++ commas others tail)) ≡ (field ∷ others) ∷ records_left default_config st.StartRecord (Some rest)
plain-left field others tail rest plain plains ends = elim ends [
  | inl feeds ↦ left-more default_config st.StartRecord line (fields, st.StartRecord, rest) (read ∙ ap behind feeds ∙ feed front last rest ∙ ended st.StartRecord rest)
  | inr other ↦ elim other [
    | inl returns ↦
        left-more default_config st.StartRecord line (fields, st.AfterCr, 10 ∷ rest) (read ∙ ap behind returns ∙ return front last (10 ∷ rest) ∙ ended st.AfterCr (10 ∷ rest))
        ∙ ap (λ rs. fields ∷ rs) (after-return rest)
    | inr stops ↦
        left-more default_config st.StartRecord line (fields, st.StartRecord, []) (read ∙ ap behind stops.0 ∙ stop front last ∙ ended st.StartRecord [])
        ∙ ap (λ xs. fields ∷ records_left default_config st.StartRecord (Some xs)) (sym stops.1)
  ]
]
  where
    line : List ℕ
    line = field ++ commas others tail

    front : List (List ℕ)
    front = complete [] field others

    last : List ℕ
    last = at_hand field others

    fields : List (List ℕ)
    fields = field ∷ others

    behind : List ℕ → Option Read
    behind xs = From front last xs

    read : next_record default_config st.StartRecord [] [] line ≡ From front last tail
    read = field-begins st.StartRecord takes-record [] field (commas others tail) plain ∙ fields-more [] field others tail plains

    found : State → List ℕ → List (List ℕ) → Option Read
    found s xs fs = Some (fs, s, xs)

    ended : (s : State) (xs : List ℕ) → found s xs (front ++ last ∷ []) ≡ found s xs fields
    ended s xs = ap (found s xs) (all-fields [] field others)

-- the records of what stands from a place on where a row does
pub row-records : (version : Version) (edges : ℕ) (text : List ℕ) (from : ℕ) (row : Row) (next : ℕ) (h : IsRowAt version edges text from row next)
    → records_at text from ≡ (h.field ∷ h.others) ∷ records_at text next
row-records version edges text from row next h =
    ap (λ xs. records_left default_config st.StartRecord (Some xs)) h.parts ∙ plain-left h.field h.others h.tail (drop next text) h.plain h.plains h.ends

-- a digit has no meaning of its own
digit-plain : (c : ℕ) → is_ascii_digit c ≡ true → IsOrdinary c
digit-plain c h = record {
  comma = grind (arith, common_steps);
  quote = grind (arith, common_steps);
  return = grind (arith, common_steps);
  feed = grind (arith, common_steps);
}

digits-plain : (f : List ℕ) → AllPass is_ascii_digit f → All IsOrdinary f
digits-plain f h = All-weaker (λ c. is_ascii_digit c ≡ true) IsOrdinary digit-plain f h

number-plain : (f : List ℕ) (n : ℕ) → IsNumber f n → IsOrdinaryField f
number-plain f n h = record { some = h.some; all = digits-plain f h.digits }

-- one more digit behind the others
digit-behind : (n v b : ℕ) (f : List ℕ) → is_ascii_digit b ≡ true → value_after n f ≡ Some v → value_after n (f ++ b ∷ []) ≡ Some (v * 10 + (b - 48))
unfolding value_after
digit-behind n v b [] d h = let same : n ≡ v = cc in rw (d, same) refl
digit-behind n v b (c ∷ f) d h = by (is_ascii_digit c) refl (digit-behind (n * 10 + (c - 48)) v b f d)
  where
    by : (e : Bool) → is_ascii_digit c ≡ e → (value_after (n * 10 + (c - 48)) f ≡ Some v → value_after (n * 10 + (c - 48)) (f ++ b ∷ []) ≡ Some (v * 10 + (b - 48)))
        → value_after n ((c ∷ f) ++ b ∷ []) ≡ Some (v * 10 + (b - 48))
    by true e more = rw e (more (rw e at h))
    by false e more = let no = rw e at h in cc

-- digits stand from one place up to another, and have a value
pub record AreDigits (text : List ℕ) (from at value : ℕ) : Type 0 where
  pub field : List ℕ
  pub ends : at ≡ from + length field
  pub parts : drop from text ≡ field ++ drop at text
  pub read : value_after 0 field ≡ Some value

pub no-digits : (text : List ℕ) (from : ℕ) → AreDigits text from from 0
unfolding value_after
no-digits text from = record { field = []; ends = omega arith; parts = refl; read = refl }

pub one-digit : (text : List ℕ) (from at value b : ℕ) → AreDigits text from at value → at < length text → get_or text at 0 ≡ b → is_ascii_digit b ≡ true
    → AreDigits text from (at + 1) (value * 10 + (b - 48))
one-digit text from at value b h within is digit = record {
  field = h.field ++ b ∷ [];
  ends = omega (arith, h.ends, length-append h.field (b ∷ []));
  parts = h.parts ∙ ap (λ r. h.field ++ r) (drop_more text at 0 within ∙ ap (λ c. c ∷ drop (at + 1) text) is) ∙ sym (append_assoc h.field (b ∷ []) (drop (at + 1) text));
  read = digit-behind 0 value b h.field digit h.read;
}

-- a text that starts with a text
front-of : (text front : List ℕ) → starts_with nat_eq text front ≡ true → text ≡ front ++ drop (length front) text
front-of text front h =
    let n = length front in
    let same : front ≡ take n text = (slice_eq-Decides Decides-eqb front (take n text) (pointwise nat_eq front (take n text)) refl).0 h in
    sym (take-append-drop n text) ∙ ap (λ xs. xs ++ drop n text) (sym same)

pub number-at : (text : List ℕ) (from at value : ℕ) → AreDigits text from at value → at ≤ length text → from < at → at - from ≤ 20 → value < 2 ^ 64
    → IsNumberAt text from value at
number-at text from at value h within some few fits =
    let long : 1 ≤ length h.field = omega (arith, h.ends) in
    let short : length h.field ≤ 20 = omega (arith, h.ends) in
    record {
      field = h.field;
      number = number-law h.field value (is-number h.field value (grind (arith, common_steps)) short fits h.read);
      parts = h.parts;
      behind = h.ends;
      within = within;
    }

-- a longer text starts so too
pub starts-longer : (text front more : List ℕ) → starts_with nat_eq text front ≡ true → starts_with nat_eq (text ++ more) front ≡ true
starts-longer text front more h =
    let n = length front in
    let rest = drop n text in
    let same : take n (text ++ more) ≡ front =
    ap (λ xs. take n (xs ++ more)) (front-of text front h) ∙ ap (λ xs. take n xs) (append_assoc front rest more) ∙ take-append_seam front (rest ++ more) in
    (slice_eq-Decides Decides-eqb front (take n (text ++ more)) (pointwise nat_eq front (take n (text ++ more))) refl).1 (sym same)

-- no kind, and a kind behind a comma
pub kind-none : (text : List ℕ) (from : ℕ) → from ≤ length text → IsKindAt First text from Get from
kind-none text from within = record { parts = refl; first = λ same. refl; behind = omega arith; within = within }

pub kind-word : (text : List ℕ) (from n : ℕ) (k : Kind) → starts_with nat_eq (drop from text) (44 ∷ word_of k) ≡ true → length (44 ∷ word_of k) ≡ n → from ≤ length text
    → IsKindAt Second text from k (from + n)
kind-word text from n k starts long within =
    let whole = front-of (drop from text) (44 ∷ word_of k) starts in
    let rest : drop n (drop from text) ≡ drop (from + n) text = drop-drop n from text in
    let size = ap (λ (xs : List ℕ). length xs) whole in
    record {
      parts = whole ∙ ap (λ r. (44 ∷ word_of k) ++ r) (ap (λ j. drop j (drop from text)) long ∙ rest);
      first = λ same. cc;
      behind = omega arith;
      within = omega (arith, size, long, length-append (44 ∷ word_of k) (drop (length (44 ∷ word_of k)) (drop from text)), length-drop from text);
    }

-- the ends of a line
pub end-text : (text : List ℕ) (at : ℕ) → at ≤ length text → length text ≤ at → IsEndAt text at at
end-text text at within ended = record { ends = inr (inr (drop_all at text ended, drop_all at text ended)); behind = omega arith; within = within }

pub end-feed : (text : List ℕ) (at : ℕ) → at < length text → get_or text at 0 ≡ 10 → IsEndAt text at (at + 1)
end-feed text at within is = record {
  ends = inl (drop_more text at 0 within ∙ ap (λ c. c ∷ drop (at + 1) text) is);
  behind = omega arith;
  within = omega arith;
}

pub end-return : (text : List ℕ) (at : ℕ) → starts_with nat_eq (drop at text) (13 ∷ 10 ∷ []) ≡ true → at ≤ length text → IsEndAt text at (at + 2)
end-return text at starts within =
    let whole = front-of (drop at text) (13 ∷ 10 ∷ []) starts in
    let size = ap (λ (xs : List ℕ). length xs) whole in
    record {
      ends = inr (inl (whole ∙ ap (λ r. 13 ∷ (10 ∷ r)) (drop-drop 2 at text)));
      behind = omega arith;
      within = omega (arith, size, length-drop at text);
    }

-- letters have no meaning of their own
letters : (f : List ℕ) → list_all is_ascii_lowercase f ≡ true → All IsOrdinary f
letters f h = All-weaker (λ c. is_ascii_lowercase c ≡ true) IsOrdinary letter-plain f (AllPass-from_list_all is_ascii_lowercase f h)
  where
    letter-plain : (c : ℕ) → is_ascii_lowercase c ≡ true → IsOrdinary c
    letter-plain c h = record {
      comma = grind (arith, common_steps);
      quote = grind (arith, common_steps);
      return = grind (arith, common_steps);
      feed = grind (arith, common_steps);
    }

one-plain : (f : List ℕ) → 1 ≤ length f → All IsOrdinary f → All IsOrdinaryField (f ∷ [])
one-plain f some all = All-cons IsOrdinaryField f [] (record { some = some; all = all }) (All-nil IsOrdinaryField)

-- the fields of a kind are plain
kind-plain : (version : Version) (k : Kind) → All IsOrdinaryField (kind_fields version k)
kind-plain First k = All-nil IsOrdinaryField
kind-plain Second Get = one-plain (codes "get") (omega arith) (letters (codes "get") refl)
kind-plain Second Purge = one-plain (codes "purge") (omega arith) (letters (codes "purge") refl)

-- four numbers in their ranges and a kind
row-written : (version : Version) (edges time edge object size : ℕ) (kind : Kind) (t e o s : List ℕ) → IsNumber t time → IsNumber e edge → IsNumber o object → IsNumber s size → (version ≡ First → kind ≡ Get)
    → time ≤ latest_time → edge < edges → 1 ≤ size → size ≤ greatest_size
    → WritesRow version edges (t ∷ e ∷ o ∷ s ∷ kind_fields version kind) (record { time = time; edge = edge; object = object; size = size; kind = kind })
unfolding field_at
row-written First edges time edge object size kind t e o s is-t is-e is-o is-s is early known some few =
    record { width = refl; time = is-t; edge = is-e; object = is-o; size = is-s; kind = is refl; time_within = early; edge_within = known; size_above = some; size_within = few }
row-written Second edges time edge object size kind t e o s is-t is-e is-o is-s is early known some few =
    record { width = refl; time = is-t; edge = is-e; object = is-o; size = is-s; kind = refl; time_within = early; edge_within = known; size_above = some; size_within = few }

-- the numbers and the kind of a row
pub row-at : (version : Version) (edges : ℕ) (text : List ℕ) (from second third fourth fifth end next time edge object size : ℕ) (kind : Kind)
    → IsNumberAndComma text from time second → IsNumberAndComma text second edge third → IsNumberAndComma text third object fourth → IsNumberAt text fourth size fifth
    → IsKindAt version text fifth kind end → IsEndAt text end next
    → time ≤ latest_time → edge < edges → 1 ≤ size → size ≤ greatest_size
    → IsRowAt version edges text from (record { time = time; edge = edge; object = object; size = size; kind = kind }) next
row-at version edges text from second third fourth fifth end next time edge object size kind t e o s k l early known some few =
    let kinds = kind_fields version kind in
    record {
      field = t.field;
      others = e.field ∷ o.field ∷ s.field ∷ kinds;
      tail = drop end text;
      parts =
          t.parts
          ∙ ap (λ r. t.field ++ (44 ∷ r)) (e.parts
          ∙ ap (λ r. e.field ++ (44 ∷ r)) (o.parts
          ∙ ap (λ r. o.field ++ (44 ∷ r)) (s.parts
          ∙ ap (λ r. s.field ++ r) k.parts)));
      plain = number-plain t.field time t.number;
      plains =
          All-cons IsOrdinaryField e.field (o.field ∷ s.field ∷ kinds) (number-plain e.field edge e.number)
          (All-cons IsOrdinaryField o.field (s.field ∷ kinds) (number-plain o.field object o.number)
          (All-cons IsOrdinaryField s.field kinds (number-plain s.field size s.number) (kind-plain version kind)));
      ends = l.ends;
      written = row-written version edges time edge object size kind t.field e.field o.field s.field t.number e.number o.number s.number k.first early known some few;
      behind = omega (arith, t.behind, e.behind, o.behind, s.behind, k.behind, l.behind);
      within = l.within;
    }

-- rows that were read, and what is left of the text
pub record AreRead (version : Version) (edges : ℕ) (text : List ℕ) (from at : ℕ) (rows : List Row) : Type 0 where
  pub body : List (List (List ℕ))
  pub parts : records_at text from ≡ body ++ records_at text at
  pub written : WriteRows version edges body rows

pub none-read : (version : Version) (edges : ℕ) (text : List ℕ) (from : ℕ) → AreRead version edges text from from []
none-read version edges text from = record { body = []; parts = refl; written = none-written version edges }

pub one-read : (version : Version) (edges : ℕ) (text : List ℕ) (from at : ℕ) (rows : List Row) (row : Row) (next : ℕ) → AreRead version edges text from at rows → IsRowAt version edges text at row next
    → AreRead version edges text from next (rows ++ row ∷ [])
one-read version edges text from at rows row next h is =
    let f = is.field ∷ is.others in
    record {
      body = h.body ++ f ∷ [];
      parts = h.parts ∙ ap (λ rs. h.body ++ rs) (row-records version edges text at row next is) ∙ sym (append_assoc h.body (f ∷ []) (records_at text next));
      written = write-more version edges h.body rows f row h.written is.written;
    }

-- no record is left at the end
nothing-left : records_left default_config st.StartRecord (Some []) ≡ []
unfolding next_record
nothing-left = left-none default_config st.StartRecord [] refl

pub none-at : (text : List ℕ) (at : ℕ) → length text ≤ at → records_at text at ≡ []
none-at text at ended = ap (λ xs. records_left default_config st.StartRecord (Some xs)) (drop_all at text ended) ∙ nothing-left

pub all-read : (version : Version) (edges : ℕ) (text : List ℕ) (from at : ℕ) (rows : List Row) → AreRead version edges text from at rows → length text ≤ at → WriteRows version edges (records_at text from) rows
all-read version edges text from at rows h ended =
    let all : records_at text from ≡ h.body = h.parts ∙ ap (λ rs. h.body ++ rs) (none-at text at ended) ∙ append-nil h.body in
    subst (λ rs. WriteRows version edges rs rows) (sym all) h.written

-- the headers as lines, with each end
abbrev names : List (List ℕ)
names = codes "time" ∷ codes "edge" ∷ codes "object" ∷ codes "size" ∷ []

abbrev kind_names : List (List ℕ)
kind_names = names ++ codes "kind" ∷ []

names-header : version_of names ≡ Some First
unfolding version_of is_header is_text_at field_at
names-header = refl

kind_names-header : version_of kind_names ≡ Some Second
unfolding version_of is_header is_text_at field_at
kind_names-header = refl

-- a header that a text starts with
abbrev HeaderOf : Version → List ℕ → ℕ → Type 0
HeaderOf version front at = (text : List ℕ) → starts_with nat_eq text front ≡ true → IsHeaderAt text version at

pub header-feed : HeaderOf First (codes "time,edge,object,size\n") 22
unfolding next_record strip_bom
header-feed text h =
    let front = codes "time,edge,object,size\n" in
    record {
      head = names;
      parts = ap (λ xs. records_of xs) (front-of text front h) ∙ left-more default_config st.StartRecord (front ++ drop 22 text) (names, st.StartRecord, drop 22 text) refl;
      is_header = names-header;
    }

pub header-return : HeaderOf First (codes "time,edge,object,size\r\n") 23
unfolding next_record strip_bom
header-return text h =
    let front = codes "time,edge,object,size\r\n" in
    record {
      head = names;
      parts = ap (λ xs. records_of xs) (front-of text front h) ∙ left-more default_config st.StartRecord (front ++ drop 23 text) (names, st.AfterCr, 10 ∷ drop 23 text) refl ∙ ap (λ rs. names ∷ rs) (after-return (drop 23 text));
      is_header = names-header;
    }

pub kind_header-feed : HeaderOf Second (codes "time,edge,object,size,kind\n") 27
unfolding next_record strip_bom
kind_header-feed text h =
    let front = codes "time,edge,object,size,kind\n" in
    record {
      head = kind_names;
      parts = ap (λ xs. records_of xs) (front-of text front h) ∙ left-more default_config st.StartRecord (front ++ drop 27 text) (kind_names, st.StartRecord, drop 27 text) refl;
      is_header = kind_names-header;
    }

pub kind_header-return : HeaderOf Second (codes "time,edge,object,size,kind\r\n") 28
unfolding next_record strip_bom
kind_header-return text h =
    let front = codes "time,edge,object,size,kind\r\n" in
    record {
      head = kind_names;
      parts = ap (λ xs. records_of xs) (front-of text front h) ∙ left-more default_config st.StartRecord (front ++ drop 28 text) (kind_names, st.AfterCr, 10 ∷ drop 28 text) refl ∙ ap (λ rs. kind_names ∷ rs) (after-return (drop 28 text));
      is_header = kind_names-header;
    }

-- a text that does not begin as a byte order mark does
pub records-bare : (text : List ℕ) → slice_get text 0 ≢ Some 0xEF → records_of text ≡ records_at text 0
records-bare text other = ap (λ xs. records_left default_config st.StartRecord (Some xs)) (unmarked text other)

-- a digit's byte is not past that of 9
pub digit-low : (c : ℕ) → is_ascii_digit c ≡ true → c ≤ 57
digit-low c h = grind (arith, common_steps)

-- so many digits are below so large a power
pub small-more : (value k d : ℕ) → value < 10 ^ k → d ≤ 9 → value * 10 + d < 10 ^ (k + 1)
small-more value k d small low = rw (add-one, pow-succ' 10 k) (omega arith)

pub small-fits : (value k : ℕ) → value < 10 ^ k → k ≤ 18 → value < 10 ^ 18
small-fits value k small few =
    let some : 0 < 10 = omega arith in
    omega (arith, small, pow-le-pow_right some few)

-- a number with which the first bytes from a place on begin
pub number-near : (text : List ℕ) (from : ℕ) (near : List ℕ) (n next : ℕ) → near ≡ take 18 (drop from text) → from ≤ length text → IsNumberAt near 0 n next
    → IsNumberAt text from n (from + next)
number-near text from near n next is there h =
    let far = drop 18 (drop from text) in
    let whole : drop from text ≡ near ++ far = sym (take-append-drop 18 (drop from text)) ∙ ap (λ front. front ++ far) (sym is) in
    let rest : drop (from + next) text ≡ drop next near ++ far = sym (drop-drop next from text) ∙ ap (λ r. drop next r) whole ∙ drop-append-le next near far h.within in
    let long = ap (λ (xs : List ℕ). length xs) whole in
    record {
      field = h.field;
      number = h.number;
      parts =
          whole
          ∙ ap (λ front. front ++ far) h.parts
          ∙ append_assoc h.field (drop next near) far
          ∙ ap (λ r. h.field ++ r) (sym rest);
      behind = omega (arith, h.behind);
      within = omega (arith, long, length-append near far, length-drop from text, h.within);
    }
