use Rattle.std.proofs.Common.{◌≡◌, ◌≤◌, length, take}
use Rattle.shells.specs.ShellLaws.{ShellsAt}
use Rattle.shells.specs.Steps.{LowFaces}
use Rattle.shells.proofs.shells.Given as goal

abbrev pub invariant-loop-b : goal.invariant-loop-b
invariant-loop-b l =
    LowFaces l.faces.boundaries l.faces.members l.lows × (length l.table ≡ 256) × (l.count ≤ l.b) ×
    ShellsAt l.job.answers l.job.proven l.faces.boundaries l.faces.members (take l.count l.table) l.b
