-- Laws of the whole body: its records one after the other.
use Rattle.std.specs.Prelude.{ℕ, ◌+◌, ◌*◌, ◌≡◌, Some, None}
use Rattle.std.proofs.Common.{sym, ◌∙◌}
use mathlib.Core.List.{List, map, flat_map, append-nil}
use Rattle.rules.specs.Frame.{framed, framed_all}
use Rattle.rules.specs.Body.{still_active, met_fans, with_vertices, solid_body, empty_body, totals_record, vertex_record, edge_record, face_records, lump_records, body_records}
use Rattle.rules.specs.Shells.{lumps}
use Rattle.fields.specs.Wrote.{Wrote}
use Rattle.shells.specs.Table.{nested_of}
use Rattle.body.specs.declared.solid.Solid.{Solid}
use Rattle.body.specs.Numbers.{number_of, placed, placed_is}
use Rattle.body.specs.Vertices.{Meeting}
use Rattle.lists.specs.Rows.{flat_map_map}
use Rattle.rules.specs.Fans.{fan_point}
use Rattle.body.specs.Writing.{records_first, records_more}
use Rattle.body.specs.Solids.{totals_in, merged_faces, body_in}

-- the totals, then vertices, edges, merged faces and lumps
pub body_wrote : (s : Solid) (before a b c d after vertices : List ℕ) (count p q r u : ℕ) → p ≡ 34 → Wrote before 0 (framed (totals_record (totals_in (Some s.totals)))) a p
    → Meeting s.starts.now a 34 (met_fans (still_active s.joining.now.edges)) vertices b count
    → Wrote b (34 + 10 * count) (framed_all (map edge_record (map (placed (number_of vertices count)) (still_active s.joining.now.edges)))) c q
    → Wrote c q (framed_all (flat_map face_records (merged_faces s))) d r → Wrote d r (framed_all (flat_map lump_records (lumps (nested_of s.shells.now)))) after u
    → Wrote before 0 (framed_all (body_records (body_in s))) after u
unfolding body_records solid_body
body_wrote s before a b c d after vertices count p q r u e t v w f l =
    let met : List ℕ = met_fans (still_active s.joining.now.edges) in
    let edges : Wrote b (34 + 10 * count) (framed_all (map edge_record (map (with_vertices met) (still_active s.joining.now.edges)))) c q = rw (← placed_is met vertices count v.numbers) w in
    let rows = flat_map_map framed vertex_record (map (fan_point s.starts.now) met) ∙ flat_map_map (λ x. framed (vertex_record x)) (fan_point s.starts.now) met in
    let fans : Wrote a 34 (framed_all (map vertex_record (map (fan_point s.starts.now) met))) b (34 + 10 * count) = rw rows v.wrote in
    records_first before a after 0 p u _ _ t
    (records_more a b after p (34 + 10 * count) u _ _ (rw e fans) (records_more b c after (34 + 10 * count) q u _ _ edges (records_more c d after q r u _ _ f l)))

-- THE EMPTY BODY

pub empty_is : framed (totals_record (totals_in None)) ≡ framed_all (body_records empty_body)
unfolding body_records flat_map
empty_is = sym (append-nil _)
