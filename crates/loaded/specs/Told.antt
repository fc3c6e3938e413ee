-- What the loaded job tells of a loop and of a question.
use Rattle.std.specs.Prelude.{ℕ, List, get_or, Option, Some, None}
use Rattle.rules.specs.Fields.{field}
use Rattle.rules.specs.Job.{Content, of_items, at_vertex, Loop}

abbrev pub no_loop : Loop
no_loop = record { face = 0; content = at_vertex 0 }

-- loop l
abbrev pub loop_at : List Loop → ℕ → Loop
loop_at ls l = get_or ls l no_loop

-- the vertex of a vertex loop
abbrev pub vertex_of : Content → Option ℕ
vertex_of (of_items xs) = None
vertex_of (at_vertex v) = Some v

-- kinds 8 to 13: no record, or its value
abbrev pub value_of : Option (List ℕ) → Option ℕ
value_of None = None
value_of (Some v) = Some (field v 0)
