-- A header and the lines of configurations, as a writer takes them.
use Rattle.std.proofs.Common.{◌≡◌, ℕ, ◌+◌, ◌<◌, Bool, true, false, List, [], ◌∷◌, ◌++◌, Option, Some, None, Result, Ok, Err, sym, ap, subst, ◌∙◌, append_assoc, append-nil, length, get_or, take, drop}
use Rattle.std.specs.List.{AllZip, Any, Contains, concat}
use Rattle.std.specs.Prelude.{MatchBool}
use Rattle.std.specs.Result.{IfErr}
use Rattle.std.specs.Io.KnownBytes.{Appends}
use Rattle.std.proofs.Math.Seq.{take-append-add}
use Rattle.std.proofs.lemmas.List.{take-append-drop, take_more}
use Rattle.std.proofs.lemmas.List.Elements.{Contains-append_left, Contains-append_right}
use Rattle.std.proofs.lemmas.List.Folds.{concat-append}
use Rattle.rw_trace.specs.declared.Row.{Row}
use Rattle.rw_sweep.specs.declared.point.Point.{Point}
use Rattle.rw_sweep.specs.Working.{HasTaken, HasTakenFirst, HasTakenPoint, IsTextOfPoint, Takes}

-- the one or the other of two, by a test
pub if-so : (P Q : Type 0) (b : Bool) → b ≡ true → MatchBool b P Q → P
if-so P Q b is h = subst (λ c. MatchBool c P Q) is h

pub if-not : (P Q : Type 0) (b : Bool) → b ≡ false → MatchBool b P Q → Q
if-not P Q b is h = subst (λ c. MatchBool c P Q) is h

-- what holds whatever the fault is
pub whatever-fault : {P T E : Type 0} (r : Result T E) → P → IfErr r (λ _. P)
whatever-fault (Ok t) h = tt
whatever-fault (Err e) h = h

-- a list is cut in two
pub cut-at : {A : Type 0} (n : ℕ) (xs front back : List A) → front ≡ take n xs → back ≡ drop n xs → xs ≡ front ++ back
cut-at n xs front back f b = sym (take-append-drop n xs) ∙ (λ i. sym f i ++ sym b i)

-- a text behind one that the writer took whole
appends-appends : (before between after : Option (List ℕ)) (s t : List ℕ) → Appends before between s → Appends between after t → Appends before after (s ++ t)
appends-appends None between after s t x y = tt
appends-appends (Some xs) None after s t x y = absurd x
appends-appends (Some xs) (Some ys) None s t x y = absurd y
appends-appends (Some xs) (Some ys) (Some zs) s t x y = y ∙ ap (λ l. l ++ t) x ∙ append_assoc xs s t

takes-more : (whole : Bool) (before between after : Option (List ℕ)) (s t : List ℕ) → Appends before between s → Takes whole between after t → Takes whole before after (s ++ t)
takes-more true before between after s t x y = appends-appends before between after s t x y
takes-more false before between after s t x (n, y) =
    (length s + n, subst (Appends before after) (sym (take-append-add s t n)) (appends-appends before between after s (take n t) x y))

-- nothing has gone out yet
pub appends-nothing : (before : Option (List ℕ)) → Appends before before []
appends-nothing None = tt
appends-nothing (Some xs) = sym (append-nil xs)

zip-append : {A B : Type 0} (R : A → B → Type 0) (xs ys : List A) (ts us : List B) → AllZip R xs ts → AllZip R ys us → AllZip R (xs ++ ys) (ts ++ us)
zip-append R [] ys [] us a b = b
zip-append R [] ys (t ∷ ts) us a b = absurd a
zip-append R (x ∷ xs) ys [] us a b = absurd a
zip-append R (x ∷ xs) ys (t ∷ ts) us a b = (a.0, zip-append R xs ys ts us a.1 b)

-- what is said of one of a wave is said of one of all
pub any-within : {A : Type 0} (P : A → Type 0) (xs first rest wave later : List A) → xs ≡ first ++ rest → rest ≡ wave ++ later → Any P wave → Any P xs
any-within P xs first rest wave later parted cut (k, x, l, at, holds) =
    let in_rest = subst (λ ys. Contains ys x) (sym cut) (Contains-append_left wave later x (k, l, at)) in
    let there = subst (λ ys. Contains ys x) (sym parted) (Contains-append_right first rest x in_rest) in
    (there.0, x, there.1, there.2, holds)

module _ (rows : List Row) where
  -- the header alone
  pub header-alone : (whole : Bool) (header : List ℕ) (before after : Option (List ℕ)) → Takes whole before after header → HasTaken whole rows [] header before after
  header-alone whole header before after t = record { texts = []; each = tt; taken = subst (Takes whole before after) (sym (append-nil header)) t }

  -- no line yet
  pub nothing-yet : (before : Option (List ℕ)) → HasTaken true rows [] [] before before
  nothing-yet before = record { texts = []; each = tt; taken = appends-nothing before }

  -- the lines of one configuration
  pub of-point : (whole : Bool) (p : Point) (before after : Option (List ℕ)) → HasTakenPoint whole rows p before after → HasTaken whole rows (p ∷ []) [] before after
  of-point whole p before after h =
      record { texts = h.text ∷ []; each = (h.tells, tt); taken = subst (Takes whole before after) (sym (append-nil h.text)) h.taken }

  -- the lines of some configurations behind those of others
  pub taken-then : (whole : Bool) (xs ys : List Point) (header : List ℕ) (before between after : Option (List ℕ)) → HasTaken true rows xs header before between
      → HasTaken whole rows ys [] between after → HasTaken whole rows (xs ++ ys) header before after
  taken-then whole xs ys header before between after p q =
      record {
        texts = p.texts ++ q.texts;
        each = zip-append (IsTextOfPoint rows) xs ys p.texts q.texts p.each q.each;
        taken = subst (Takes whole before after) (append_assoc header (concat p.texts) (concat q.texts) ∙ ap (λ t. header ++ t) (sym (concat-append p.texts q.texts)))
            (takes-more whole before between after (header ++ concat p.texts) (concat q.texts) p.taken q.taken);
      }

  -- so far are the lines of configurations out that these are left
  pub record AreLeft (points rest : List Point) (header : List ℕ) (before after : Option (List ℕ)) : Type 0 where
    pub first : List Point
    pub parted : points ≡ first ++ rest
    pub taken : HasTaken true rows first header before after

  -- a wave more is out
  pub wave-more : (points rest wave later : List Point) (header : List ℕ) (before between after : Option (List ℕ)) → AreLeft points rest header before between → rest ≡ wave ++ later
      → HasTaken true rows wave [] between after → AreLeft points later header before after
  wave-more points rest wave later header before between after l cut q =
      record {
        first = l.first ++ wave;
        parted = l.parted ∙ ap (λ x. l.first ++ x) cut ∙ sym (append_assoc l.first wave later);
        taken = taken-then true l.first wave header before between after l.taken q;
      }

  -- of the next wave the first lines alone are out
  pub wave-first : (whole : Bool) (points rest wave later : List Point) (header : List ℕ) (before between after : Option (List ℕ)) → AreLeft points rest header before between
      → rest ≡ wave ++ later → HasTakenFirst whole rows wave [] between after → HasTakenFirst whole rows points header before after
  wave-first whole points rest wave later header before between after l cut q =
      record {
        first = l.first ++ q.first;
        rest = q.rest ++ later;
        parted = l.parted ∙ ap (λ x. l.first ++ x) (cut ∙ ap (λ x. x ++ later) q.parted ∙ append_assoc q.first q.rest later) ∙ sym (append_assoc l.first q.first (q.rest ++ later));
        taken = taken-then whole l.first q.first header before between after l.taken q.taken;
      }

  -- the first of those that are left, whole or not
  pub first-of-left : (whole : Bool) (points : List Point) (n : ℕ) (p : Point) (header : List ℕ) (before between after : Option (List ℕ)) → n < length points → p ≡ get_or points n p
      → HasTaken true rows (take n points) header before between → HasTakenPoint whole rows p between after → HasTaken whole rows (take (n + 1) points) header before after
  first-of-left whole points n p header before between after l here t one =
      let grown : take (n + 1) points ≡ take n points ++ p ∷ [] = take_more points n p l ∙ ap (λ x. take n points ++ x ∷ []) (sym here) in
      subst (λ ps. HasTaken whole rows ps header before after) (sym grown)
      (taken-then whole (take n points) (p ∷ []) header before between after t (of-point whole p between after one))

  -- the first n configurations are some of all
  pub first-of-all : (whole : Bool) (points : List Point) (n : ℕ) (header : List ℕ) (before after : Option (List ℕ)) → HasTaken whole rows (take n points) header before after
      → HasTakenFirst whole rows points header before after
  first-of-all whole points n header before after t = record { first = take n points; rest = drop n points; parted = sym (take-append-drop n points); taken = t }
