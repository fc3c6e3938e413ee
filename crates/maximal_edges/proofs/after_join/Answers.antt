use Rattle.std.proofs.Common.{rules, ◌≡◌, get_or}
use Rattle.maximal_edges.proofs.after_join.Goals as goal

-- the search finds this alone; with `q`, a wrong end fails at that line and not at a limit of the search
pub returns : goal.returns
returns c =
    let q : c.get-q.result ≡ get_or c.args.ranks.now c.args.e.end 0 = c.get-q.ensures.0 in
    search rules
