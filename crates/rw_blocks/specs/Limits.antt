-- The limits of a queue's shape, each by its number.
use Rattle.rw_numbers.specs.Words.{Count, Size}

-- the most sections
abbrev pub most_sections : Count
most_sections = 16

-- the largest block, in bytes
abbrev pub largest_block : Size
largest_block = 268435456

-- the most sealed device blocks
abbrev pub most_blocks : Count
most_blocks = 65536
