-- Each number is the definition's (`u32_of`, `u64_of`). Assumes nothing.
use Rattle.std.proofs.Common.{◌∙◌}
use Rattle.records.proofs.Numbers.{u32_of, u64_of}
use Rattle.records.proofs.asked_of.Goals as goal

pub returns : goal.returns
returns c =
    let bs = c.args.bytes.now in
    rw (
      c.from_le_bytes.ensures ∙ u32_of bs _ 4 c.bytes_at.ensures,
      c.from_le_bytes-2.ensures ∙ u32_of bs _ 8 c.bytes_at-2.ensures,
      c.from_le_bytes-3.ensures ∙ u32_of bs _ 12 c.bytes_at-3.ensures,
      c.from_le_bytes-4.ensures ∙ u32_of bs _ 16 c.bytes_at-4.ensures,
      c.from_le_bytes-5.ensures ∙ u64_of bs _ 20 c.bytes_at-5.ensures,
      c.from_le_bytes-6.ensures ∙ u64_of bs _ 28 c.bytes_at-6.ensures,
    )
