use Rattle.std.specs.Prelude.{◌≡◌, ltb}
use Rattle.contact.proofs.fn.is_lower.is_none_or.Given as goal

-- as the code has it; said here so that a wrong comparison is refused by numbers and not at a limit of the search
abbrev pub ensures : goal.ensures
ensures l r = r ≡ ltb l.p l.q
