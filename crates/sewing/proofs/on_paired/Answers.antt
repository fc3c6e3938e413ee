use Rattle.std.proofs.Common.{arith}
use Rattle.progress.specs.KnownLaws.{paired_few, paired_twins}
use Rattle.sewing.proofs.on_paired.Goals as goal

pub write_twins-requires : goal.write_twins-requires
write_twins-requires c = omega (arith, paired_few c.requires.paired, (paired_twins c.requires.paired).size)
