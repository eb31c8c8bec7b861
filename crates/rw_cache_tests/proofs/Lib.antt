pub mod FreeBlocks
