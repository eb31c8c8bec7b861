-- What a contract sees of a port, and of all ports of one opening. T is the type of the letters.
use Rattle.std.specs.Prelude.{◌≡◌, ◌≢◌, ◌<◌, List, [], ◌∷◌, ◌++◌, length, map, slice_index_or, slice_set, Option, Some, None}
use Rattle.std.specs.List.{All}
use Rattle.rtrb.specs.Fifo.{EachAllowed}
use Rattle.rw_vt.specs.Words.{Count, Position, Worker}
use Rattle.rw_exchange.specs.Rings.{Ring, AllButOwn, cell}

-- A worker's port: the rings to and from each worker, all that went through this end of each, oldest first, and how
-- many slots of the ring to each worker the port knows to be free
pub record PortState (T : Type 0) : Type 0 where
  pub worker : Worker
  pub capacity : Count
  pub out : List (Option Ring)
  pub into : List (Option Ring)
  pub sent : List (List T)
  pub received : List (List T)
  pub free : List Count

module _ {T : Type 0} where
  abbrev pub sent_to : PortState T → Worker → List T
  sent_to p k = slice_index_or p.sent k []

  abbrev pub received_from : PortState T → Worker → List T
  received_from p k = slice_index_or p.received k []

  -- the slots of the ring to k that the port knows to be free
  abbrev pub free_to : PortState T → Worker → Count
  free_to p k = slice_index_or p.free k 0

  -- the port, once it has sent the letter to the worker k, and then knows of `free` free slots there
  abbrev pub after_sending : PortState T → Worker → T → Count → PortState T
  after_sending p k x free =
      record p { sent = slice_set p.sent k (sent_to p k ++ x ∷ []); free = slice_set p.free k free }

  -- the port, once it has received the letter from the worker k
  abbrev pub after_receiving : PortState T → Worker → T → PortState T
  after_receiving p k x =
      record p { received = slice_set p.received k (received_from p k ++ x ∷ []) }

  -- k is one of the other workers
  abbrev pub IsOther : PortState T → Worker → Type 0
  IsOther p k = (k < length p.out) × (k ≢ p.worker)

  -- nothing was sent or received yet
  abbrev pub IsNew : PortState T → Type 0
  IsNew p = ((k : Worker) → sent_to p k ≡ []) × ((k : Worker) → received_from p k ≡ [])

  -- the port knows of n free slots of the ring to each other worker
  abbrev pub KnowsFreeToEach : Count → PortState T → Type 0
  KnowsFreeToEach n p = (k : Worker) → IsOther p k → free_to p k ≡ n

  -- the port has n lists of letters each way, and as many places for rings
  abbrev pub IsWide : Count → PortState T → Type 0
  IsWide n p =
      (length p.out ≡ n) × (length p.into ≡ n)
      × (length p.sent ≡ n) × (length p.received ≡ n)

  -- the port is the same before and after, perhaps once it has sent and received more
  pub record SamePort (before after : PortState T) : Type 0 where
    pub worker : after.worker ≡ before.worker
    pub capacity : after.capacity ≡ before.capacity
    pub out : after.out ≡ before.out
    pub into : after.into ≡ before.into
    pub sent : length after.sent ≡ length before.sent
    pub received : length after.received ≡ length before.received

-- the list of row i and column j
abbrev pub entry : {X : Type 0} → List (List (List X)) → Position → Position → List X
entry rows i j = slice_index_or (slice_index_or rows i []) j []

-- what may be an item, as a list
abbrev pub items_of : {T : Type 0} → Option T → List T
items_of None = []
items_of (Some x) = x ∷ []

module _ {T : Type 0} where
  abbrev pub outs_of : List (PortState T) → List (List (Option Ring))
  outs_of ps = map (λ p. p.out) ps

  abbrev pub intos_of : List (PortState T) → List (List (Option Ring))
  intos_of ps = map (λ p. p.into) ps

  -- all that went into the ring from the worker i to the worker j
  abbrev pub sent_between : List (PortState T) → Worker → Worker → List T
  sent_between ps i j = entry (map (λ p. p.sent) ps) i j

  -- all that came out of it
  abbrev pub received_between : List (PortState T) → Worker → Worker → List T
  received_between ps i j = entry (map (λ p. p.received) ps) j i

  -- Of each ring between n workers, what went in and what came out is its first item, which `first` says by sender and
  -- receiver
  abbrev pub HaveFirst : Count → (Worker → Worker → Option T) → List (PortState T) → Type 0
  HaveFirst n first ps =
      (from to : Worker)
      → from < n
      → to < n
      → from ≢ to
      → (sent_between ps from to ≡ items_of (first from to))
      × (received_between ps from to ≡ items_of (first from to))

  -- of n workers none has sent anything to itself, or received it
  abbrev pub NoneItself : Count → List (PortState T) → Type 0
  NoneItself n ps =
      (i : Worker) → i < n → (sent_between ps i i ≡ []) × (received_between ps i i ≡ [])

  -- what is left in the rings between n workers is what was sent and not received, letter by letter and in order
  abbrev pub IsLeftOf : Count → List (PortState T) → List (List (List T)) → Type 0
  IsLeftOf n ps left =
      (from to : Worker)
      → from < n
      → to < n
      → received_between ps from to ++ entry left from to ≡ sent_between ps from to

  -- Of what is left in the rings between n workers, each item is one that a protocol allows behind all that came out of
  -- its ring and all that is left in it before
  abbrev pub IsLeftAllowed :
      (List T → T → Type 0) → Count → List (PortState T) → List (List (List T)) → Type 0
  IsLeftAllowed allows n ps left =
      (from to : Worker)
      → from < n
      → to < n
      → EachAllowed allows (received_between ps from to) (entry left from to)

  -- of n workers nothing is left from one to itself
  abbrev pub NoneToItself : Count → List (List (List T)) → Type 0
  NoneToItself n left = (i : Worker) → i < n → entry left i i ≡ []

  -- These are all ports of one opening, in order: port i has a ring to each other worker and none to itself, and the
  -- ring from i to j is the one that port j has from i
  pub record IsOpening (ps : List (PortState T)) : Type 0 where
    pub numbered :
        (i : Worker) (d : PortState T) → i < length ps → (slice_index_or ps i d).worker ≡ i
    pub wide : All (IsWide (length ps)) ps
    pub others : (i : Worker) → i < length ps → AllButOwn i (slice_index_or (outs_of ps) i [])
    pub paired :
        (i j : Worker)
        → i < length ps
        → j < length ps
        → cell (outs_of ps) i j ≡ cell (intos_of ps) j i

  -- the same ports in the same order, perhaps after they have sent and received more
  abbrev pub AreSamePorts : List (PortState T) → List (PortState T) → Type 0
  AreSamePorts before after =
      (length after ≡ length before)
      × ((i : Worker) (d : PortState T)
      → i < length before
      → SamePort (slice_index_or before i d) (slice_index_or after i d))

  -- whatever goes through them, they are all ports of one opening
  abbrev pub StayAnOpening : List (PortState T) → Type 0
  StayAnOpening ps = (later : List (PortState T)) → AreSamePorts ps later → IsOpening later

-- ---- for private contracts
-- of each of n rings in a row, what came out at one place of the columns, followed by what is left, is what went in
abbrev pub IsLeftOfRow :
    {T : Type 0} → Count → Position → List (List (List T)) → List (List T) → List (List T) → Type 0
IsLeftOfRow n place received left sent =
    (j : Worker)
    → j < n
    → entry received j place ++ slice_index_or left j [] ≡ slice_index_or sent j []

-- each item that is left in one of n rings in a row is one that a protocol allows behind those before it
abbrev pub IsRowAllowed :
    {T : Type 0}
    → (List T → T → Type 0)
    → Count
    → Position
    → List (List (List T))
    → List (List T)
    → Type 0
IsRowAllowed allows n place received left =
    (j : Worker)
    → j < n
    → EachAllowed allows (entry received j place) (slice_index_or left j [])

-- what went into each ring of a row is its first item; of the own place nothing is said
abbrev pub HasRowFirst : {T : Type 0} → Worker → (Worker → Option T) → List (List T) → Type 0
HasRowFirst own first sent =
    (to : Worker) → to < length sent → own ≢ to → slice_index_or sent to [] ≡ items_of (first to)

-- Of each ring from one of m workers to one of n, what went in and what came out is its first item, in tables by sender
-- and by receiver
abbrev pub HaveTablesFirst :
    {T : Type 0}
    → (n m : Count)
    → (Worker → Worker → Option T)
    → List (List (List T))
    → List (List (List T))
    → Type 0
HaveTablesFirst n m first sent received =
    (from to : Worker)
    → from < m
    → to < n
    → from ≢ to
    → (entry sent from to ≡ items_of (first from to))
    × (entry received to from ≡ items_of (first from to))
