-- What the blocks have once an entry that was lent is given back.
use Rattle.std.specs.Prelude.{◌≡◌, Option, Some, IsSome, nat_eq}
use Rattle.std.specs.Borrow.{LendsSo, MutBor, Fml}
use Rattle.std.specs.HashMap.{get}
use Rattle.rw_numbers.specs.Words.{Serial}
use Rattle.rw_blocks.specs.declared.lists.Lists.{Lists}
use Rattle.rw_blocks.specs.declared.lists.Entry.{Entry}
use Rattle.rw_blocks.specs.contracts.lists.Lists as lists
use Rattle.rw_blocks.specs.contracts.lists.Entry as entry
use Rattle.rw_blocks.specs.Maps.{Sets}

-- the block has the entry then, if it had one, and the others have what they had
abbrev pub IsWritten : Lists → Serial → Lists → Entry → Type 0
IsWritten before b after e =
    IsSome (get nat_eq before.blocks b)
    → Sets (get nat_eq before.blocks) (get nat_eq after.blocks) b (Some e)

-- and nothing has changed where it had none
abbrev pub LendsEntry : MutBor Lists → Serial → Option (MutBor Entry) → Fml
LendsEntry m b r =
    LendsSo lists.the_row entry.the_row m r (λ n e. IsWritten m.now b n e) (λ n. n ≡ m.now)
