-- The bytes that wait for a sink.
use Rattle.std.specs.Prelude.{ℕ, List, take}
use Rattle.lk_text.specs.declared.block.Block.{Block}

-- the bytes that were added and not put
abbrev pub waiting : Block → List ℕ
waiting block = take block.len block.bytes.items
