-- A text that goes out piece by piece.
use Rattle.std.proofs.Common.{◌≡◌, ℕ, ◌+◌, List, ◌++◌, Option, Some, None, Result, Ok, Err, ◌<◌, ◌≤◌, ◌∙◌, ap, arith, length, length-drop, take, drop, add-zero, append_assoc}
use Rattle.std.specs.Result.{IfOk, result_unwrap_or}
use Rattle.std.specs.Io.KnownBytes.{Appends, Keeps, WriteAppends}
use Rattle.std.proofs.Math.Seq.{take-add}

-- what kept what it held holds what the one before it had grown by
pub appends-keeps : (old mid new : Option (List ℕ)) (bs : List ℕ) → Appends old mid bs → Keeps mid new → Appends old new bs
appends-keeps None mid new bs a k = tt
appends-keeps (Some xs) None new bs a k = absurd a
appends-keeps (Some xs) (Some ys) None bs a k = absurd k
appends-keeps (Some xs) (Some ys) (Some zs) bs a k = k ∙ a

appends-appends : (old mid new : Option (List ℕ)) (bs cs : List ℕ) → Appends old mid bs → Appends mid new cs → Appends old new (bs ++ cs)
appends-appends None mid new bs cs a b = tt
appends-appends (Some xs) None new bs cs a b = absurd a
appends-appends (Some xs) (Some ys) None bs cs a b = absurd b
appends-appends (Some xs) (Some ys) (Some zs) bs cs a b = b ∙ ap (λ l. l ++ cs) a ∙ append_assoc xs bs cs

-- one write more
pub written-more : {E : Type 0} (r : Result ℕ E) (old mid new : Option (List ℕ)) (text : List ℕ) (w n : ℕ) → n ≡ result_unwrap_or r 0
    → Appends old mid (take w text) → WriteAppends mid new r (drop w text) → Appends old new (take (w + n) text)
written-more (Ok k) old mid new text w n is a b =
    let out = appends-appends old mid new (take w text) (take k (drop w text)) a b in
    rw (is, take-add w k text) out
written-more (Err e) old mid new text w n is a b = rw (is, add-zero) (appends-keeps old mid new (take w text) a b)

-- what was taken is within the text
pub taken-within : {E : Type 0} (r : Result ℕ E) (text : List ℕ) (w n : ℕ) → n ≡ result_unwrap_or r 0 → w < length text → IfOk r (λ k. k ≤ length (drop w text)) → w + n ≤ length text
taken-within (Ok k) text w n is l h = omega (arith, length-drop w text)
taken-within (Err e) text w n is l h = omega arith
