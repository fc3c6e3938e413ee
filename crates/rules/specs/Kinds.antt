-- The kinds of job records, a clause for each: length, position, limit, permitted fields, question.
use Rattle.std.specs.Prelude.{ℕ, ◌+◌, ◌*◌, ◌%◌, ◌/◌, List, [], ◌∷◌, Bool, true, false, ◌&&◌, ◌||◌, not, cond, get_or, take, drop, eqb, ltb, leb}
use Rattle.lists.specs.Lists.{all}
use Rattle.rules.specs.declared.Kind.{Kind}
use Rattle.rules.specs.declared.Kind.TheVariants.{Unknown, Head, Vertex, EdgeRecord, FaceRecord, LoopRecord, VertexLoop, Radial, Surface, Points, Curves, Singular, Orientation, Inside}
use Rattle.rules.specs.declared.Counts.{Counts}
use Rattle.rules.specs.Fields.{field}
use Rattle.rules.specs.Job.{unset}
use Rattle.rules.specs.Questions.{unordered, is_surface, is_verdict}

-- Job records, table: the kind of a number
unfoldable pub kind_of : ℕ → Kind
kind_of k =
    get_or
    (Unknown
    ∷ Head
    ∷ Vertex
    ∷ EdgeRecord
    ∷ FaceRecord
    ∷ LoopRecord
    ∷ VertexLoop
    ∷ Radial
    ∷ Surface
    ∷ Points
    ∷ Curves
    ∷ Singular
    ∷ Orientation
    ∷ Inside
    ∷ [])
    k
    Unknown

-- Job records, table: the number of a kind
unfoldable pub number_of : Kind → ℕ
number_of Unknown = 0
number_of Head = 1
number_of Vertex = 2
number_of EdgeRecord = 3
number_of FaceRecord = 4
number_of LoopRecord = 5
number_of VertexLoop = 6
number_of Radial = 7
number_of Surface = 8
number_of Points = 9
number_of Curves = 10
number_of Singular = 11
number_of Orientation = 12
number_of Inside = 13

-- kinds 5 and 6 are loops
abbrev pub is_loop : Kind → Bool
is_loop k = eqb (number_of k) 5 || eqb (number_of k) 6

-- kinds 7 to 13 are answers
abbrev pub is_answer : Kind → Bool
is_answer k = leb 7 (number_of k)

-- Job records, table: a payload of n fields of four bytes
abbrev pub fields_long : ℕ → ℕ → Bool
fields_long n size = eqb size (4 * n)

-- Endings, 3: the payload's length is right for its kind; an unknown kind has none
unfoldable pub right_length : Kind → ℕ → Bool
right_length Unknown size = false
right_length Head size = fields_long 1 size
right_length Vertex size = fields_long 1 size
right_length EdgeRecord size = fields_long 4 size
right_length FaceRecord size = fields_long 5 size
right_length LoopRecord size = ltb 0 size && eqb (size % 8) 0
right_length VertexLoop size = fields_long 1 size
right_length Radial size = ltb 0 size && eqb (size % 4) 0
right_length Surface size = fields_long 2 size
right_length Points size = fields_long 3 size
right_length Curves size = fields_long 3 size
right_length Singular size = fields_long 5 size
right_length Orientation size = fields_long 2 size
right_length Inside size = fields_long 3 size

-- Job records: the part of the job to which a kind belongs: 1 Head, 2 vertices, 3 edges, 4 faces with their loops, 5 answers
unfoldable pub part_of : Kind → ℕ
part_of Unknown = 0
part_of Head = 1
part_of Vertex = 2
part_of EdgeRecord = 3
part_of FaceRecord = 4
part_of LoopRecord = 4
part_of VertexLoop = 4
part_of Radial = 5
part_of Surface = 5
part_of Points = 5
part_of Curves = 5
part_of Singular = 5
part_of Orientation = 5
part_of Inside = 5

-- after Head, and not after a later part
abbrev pub in_turn : ℕ → ℕ → Bool
in_turn reached part = ltb 0 reached && leb reached part

-- Endings, 3: Head comes first, once; then vertices, edges, faces with their loops, then answers in any order
unfoldable pub right_position : Kind → ℕ → Bool
right_position Unknown reached = false
right_position Head reached = eqb reached 0
right_position Vertex reached = in_turn reached 2
right_position EdgeRecord reached = in_turn reached 3
right_position FaceRecord reached = in_turn reached 4
right_position LoopRecord reached = eqb reached 4
right_position VertexLoop reached = eqb reached 4
right_position Radial reached = in_turn reached 5
right_position Surface reached = in_turn reached 5
right_position Points reached = in_turn reached 5
right_position Curves reached = in_turn reached 5
right_position Singular reached = in_turn reached 5
right_position Orientation reached = in_turn reached 5
right_position Inside reached = in_turn reached 5

-- Endings, 5: a limit is passed by one more record, of n fields: 1,024 vertices, 1,024 edges, 256 faces, 1,024 loops, 2,048 uses, 2,048 answers
unfoldable pub limit_passed : Kind → Counts → ℕ → Bool
limit_passed Unknown c n = false
limit_passed Head c n = false
limit_passed Vertex c n = leb 1024 c.vertices
limit_passed EdgeRecord c n = leb 1024 c.edges
limit_passed FaceRecord c n = leb 256 c.faces
limit_passed LoopRecord c n = leb 1024 c.loops || ltb 2048 (c.uses + n / 2)
limit_passed VertexLoop c n = leb 1024 c.loops
limit_passed Radial c n = leb 2048 c.answers
limit_passed Surface c n = leb 2048 c.answers
limit_passed Points c n = leb 2048 c.answers
limit_passed Curves c n = leb 2048 c.answers
limit_passed Singular c n = leb 2048 c.answers
limit_passed Orientation c n = leb 2048 c.answers
limit_passed Inside c n = leb 2048 c.answers

-- Job records: sense is 0 or 1
abbrev pub is_sense : ℕ → Bool
is_sense n = leb n 1

-- document 02, Seven: body is 0 or 1
abbrev pub is_body : ℕ → Bool
is_body n = leb n 1

-- Job records, kind 3: two vertices that exist, or the mark in both
unfoldable pub ends_permitted : ℕ → ℕ → ℕ → Bool
ends_permitted vertices start end = cond (eqb start unset) (eqb end unset) (ltb start vertices && ltb end vertices)

-- Job records, kind 5: each edge exists, each sense is one
unfoldable pub items_permitted : ℕ → List ℕ → Bool
items_permitted edges [] = true
items_permitted edges (e ∷ []) = false
items_permitted edges (e ∷ s ∷ rest) = ltb e edges && (is_sense s && items_permitted edges rest)

-- a number exists among so many
abbrev pub exists : ℕ → ℕ → Bool
exists count x = ltb x count

-- Endings, 4: the fields are permitted
unfoldable pub fields_permitted : Kind → Counts → List ℕ → Bool
fields_permitted Unknown c x = false
fields_permitted Head c x = leb (field x 0) 1
fields_permitted Vertex c x = true
fields_permitted EdgeRecord c x = is_sense (field x 1) && ends_permitted c.vertices (field x 2) (field x 3)
fields_permitted FaceRecord c x = is_sense (field x 1) && (is_sense (field x 2) && is_body (field x 3))
fields_permitted LoopRecord c x = items_permitted c.edges x
fields_permitted VertexLoop c x = exists c.vertices (field x 0)
fields_permitted Radial c x = exists c.edges (field x 0) && all (exists c.uses) (drop 1 x)
fields_permitted Surface c x = exists c.uses (field x 0) && is_surface (field x 1)
fields_permitted Points c x = not (eqb (field x 0) (field x 1)) && is_verdict (field x 2)
fields_permitted Curves c x = not (eqb (field x 0) (field x 1)) && is_verdict (field x 2)
fields_permitted Singular c x = ltb (field x 1) (field x 2) && (exists c.faces (field x 2) && is_verdict (field x 4))
fields_permitted Orientation c x = exists c.faces (field x 0) && is_verdict (field x 1)
fields_permitted Inside c x = exists c.faces (field x 0) && (exists c.faces (field x 1) && is_verdict (field x 2))

-- Job records, table: how many fields make the question of an answer; 0 for a record that is no answer
unfoldable pub question_length : Kind → ℕ
question_length Unknown = 0
question_length Head = 0
question_length Vertex = 0
question_length EdgeRecord = 0
question_length FaceRecord = 0
question_length LoopRecord = 0
question_length VertexLoop = 0
question_length Radial = 1
question_length Surface = 1
question_length Points = 2
question_length Curves = 2
question_length Singular = 4
question_length Orientation = 1
question_length Inside = 2

-- the question that an answer's fields begin with
unfoldable pub question_of : Kind → List ℕ → List ℕ
question_of Unknown x = []
question_of Head x = []
question_of Vertex x = []
question_of EdgeRecord x = []
question_of FaceRecord x = []
question_of LoopRecord x = []
question_of VertexLoop x = []
question_of Radial x = take 1 x
question_of Surface x = take 1 x
question_of Points x = unordered (field x 0) (field x 1)
question_of Curves x = unordered (field x 0) (field x 1)
question_of Singular x = take 4 x
question_of Orientation x = take 1 x
question_of Inside x = take 2 x
