use Rattle.std.proofs.Common.{arith}
use Rattle.result_out.proofs.RowLaws.{lump_wrote}
use Rattle.shells.specs.Table.{nested_row, nested_of}
use Rattle.result_out.proofs.put_lump.Goals as goal

pub returns : goal.returns
returns c =
    let s = c.args.shells.now in
    (lump_wrote c.args.number (nested_of s) (nested_row s c.args.outer) _ _ _ _ _ _ c.put_shell-p.ensures.0 c.put_voids.ensures.0, omega arith)
