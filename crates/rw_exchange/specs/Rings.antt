-- A ring, and what its ends show.
use Rattle.std.specs.Prelude.{◌≡◌, ◌≢◌, ℕ, ◌<◌, ◌==◌, not, List, [], ◌∷◌, ◌++◌, map, length, slice_index_or, slice_set, Option, Some, None, IsSome, is_some, Vec}
use Rattle.std.specs.List.{All}
use Rattle.std.specs.declared.alloc.Global.{Global}
use denote.RawPtr.{Ptr}
use Rattle.rtrb.specs.declared.producer.Producer.{Producer}
use Rattle.rtrb.specs.declared.consumer.Consumer.{Consumer}
use Rattle.rtrb.specs.Ring as ring
use Rattle.rw_vt.specs.Words.{Count, Position, Worker}

-- a ring, by what tells it from others: where its words and its slots lie, and the names of what its ends know
abbrev pub Ring : Type 0
Ring = Ptr × (Ptr × (ℕ × (ℕ × ℕ)))

-- an end of a ring where items go in, or where they come out, or none. P is the type that has the protocol
abbrev pub Out : Type 0 → Type 0 → Type 0
Out T P = Option (Producer T Global P)

abbrev pub In : Type 0 → Type 0 → Type 0
In T P = Option (Consumer T Global P)

-- the ends where the items of one worker go in, and those where its items come out
abbrev pub Row : Type 0 → Type 0 → Type 0
Row T P = Vec (Out T P) Global

abbrev pub Column : Type 0 → Type 0 → Type 0
Column T P = Vec (In T P) Global

-- ---- an end of a ring, or none

module _ {T P : Type 0} where
  abbrev pub out_ring : Out T P → Option Ring
  out_ring None = None
  out_ring (Some p) = Some (p.end.words, (p.end.slots, p.end.names))

  abbrev pub in_ring : In T P → Option Ring
  in_ring None = None
  in_ring (Some c) = Some (c.end.words, (c.end.slots, c.end.names))

  -- all that went into it, oldest first
  abbrev pub out_sent : Out T P → List T
  out_sent None = []
  out_sent (Some p) = ring.sent p

  -- how many of its slots are known to be free where items go in
  abbrev pub out_free : Out T P → Count
  out_free None = 0
  out_free (Some p) = ring.known_free p

  -- all that came out of it, oldest first
  abbrev pub in_received : In T P → List T
  in_received None = []
  in_received (Some c) = ring.received c

  -- the ring, where there is one, has this capacity
  abbrev pub HasCapacity : Count → Out T P → Type 0
  HasCapacity n None = Unit {0}
  HasCapacity n (Some p) = ring.producer_capacity p ≡ n

  -- all n slots of the ring, where there is one, are known to be free
  abbrev pub KnowsFree : Count → Out T P → Type 0
  KnowsFree n None = Unit {0}
  KnowsFree n (Some p) = ring.known_free p ≡ n

  -- an end through which nothing went
  abbrev pub NothingSent : Out T P → Type 0
  NothingSent x = out_sent x ≡ []

  abbrev pub NothingReceived : In T P → Type 0
  NothingReceived x = in_received x ≡ []

-- ---- the ends of one worker, and those of several

module _ {T P : Type 0} where
  -- there is an end each way for every worker but this one
  abbrev pub HasEnds : Worker → List (Out T P) → List (In T P) → Type 0
  HasEnds own outs ins =
      (k : Worker)
      → k < length outs
      → k ≢ own
      → IsSome (slice_index_or outs k None) × IsSome (slice_index_or ins k None)

  -- nothing came out of any end
  abbrev pub NothingReceivedAtAll : List (Column T P) → Type 0
  NothingReceivedAtAll columns = All (λ (c : Column T P). All NothingReceived c.items) columns

  abbrev pub out_rings : List (Out T P) → List (Option Ring)
  out_rings xs = map out_ring xs

  abbrev pub in_rings : List (In T P) → List (Option Ring)
  in_rings xs = map in_ring xs

  abbrev pub out_table : List (Row T P) → List (List (Option Ring))
  out_table rows = map (λ r. map out_ring r.items) rows

  abbrev pub in_table : List (Column T P) → List (List (Option Ring))
  in_table rows = map (λ r. map in_ring r.items) rows

  abbrev pub sent_table : List (Row T P) → List (List (List T))
  sent_table rows = map (λ r. map out_sent r.items) rows

  abbrev pub received_table : List (Column T P) → List (List (List T))
  received_table rows = map (λ r. map in_received r.items) rows

-- each element goes behind the list of its number
abbrev pub push_each : {X : Type 0} → List (List X) → List X → List (List X)
push_each [] xs = []
push_each (c ∷ cs) [] = c ∷ cs
push_each (c ∷ cs) (x ∷ xs) = (c ++ x ∷ []) ∷ push_each cs xs

-- the lists, of which the one with the number has one element more
abbrev pub lists_with : {X : Type 0} → List (List X) → Position → X → List (List X)
lists_with lists k x = slice_set lists k (slice_index_or lists k [] ++ x ∷ [])

-- every list but the one with the number is the same
abbrev pub SameBut : {X : Type 0} → Position → List (List X) → List (List X) → Type 0
SameBut j before after =
    (k : Position) → k ≢ j → slice_index_or after k [] ≡ slice_index_or before k []

-- there is a ring to each worker but the own one
abbrev pub AllButOwn : Worker → List (Option Ring) → Type 0
AllButOwn own xs =
    (k : Worker) → k < length xs → is_some (slice_index_or xs k None) ≡ not (k == own)

-- the cell of row i and column j
abbrev pub cell : {X : Type 0} → List (List (Option X)) → Position → Position → Option X
cell rows i j = slice_index_or (slice_index_or rows i []) j None

-- each of the first n lists has a place with the number
abbrev pub HasPlace : {X : Type 0} → Count → Position → List (List X) → Type 0
HasPlace n place lists = (j : Position) → j < n → place < length (slice_index_or lists j [])

-- the rings in a row of n are those at one place of each of the lists
abbrev pub IsAtPlace : Count → Position → List (Option Ring) → List (List (Option Ring)) → Type 0
IsAtPlace n place row lists = (j : Worker) → j < n → slice_index_or row j None ≡ cell lists j place

-- Rings by sender and by receiver: m senders so far, and n receivers
pub record AreCrossed (n m : Count) (rows columns : List (List (Option Ring))) : Type 0 where
  pub senders : length rows ≡ m
  pub receivers : length columns ≡ n
  pub wide : All (λ (r : List (Option Ring)). length r ≡ n) rows
  pub deep : All (λ (c : List (Option Ring)). length c ≡ m) columns
  pub paired : (i j : Worker) → i < m → j < n → cell rows i j ≡ cell columns j i
  pub others : (i : Worker) → i < m → AllButOwn i (slice_index_or rows i [])
