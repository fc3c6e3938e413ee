-- All definitions of the rules, opened together: `unfolding computes` lets antt compute with them. Written by tools/open.
use mathlib.Core.List.{flat_map}
use Rattle.lists.specs.Lists.{from, has, repeats, same, times, least, all, some, keep, positions, position, sum_of}
use Rattle.lists.specs.Lists.{neighbours_from, neighbours, iterate, orbit}
use Rattle.rules.specs.Outcome.{fault_number, need, throughout, for_each}
use Rattle.rules.specs.Sense.{FourAnswers}
use Rattle.rules.specs.Fields.{le16, le32, fields_in, bytes32}
use Rattle.rules.specs.Frame.{whole_record, frame_at, taking, frames_from, framed}
use Rattle.rules.specs.Job.{items_of}
use Rattle.rules.specs.Questions.{find, surface_number, verdict_number, numbered, surface_answer, verdict, on_record, decided, ask_same, ordered}
use Rattle.rules.specs.Kinds.{kind_of, number_of, right_length, part_of, right_position, limit_passed, ends_permitted, items_permitted, fields_permitted, question_length, question_of}
use Rattle.rules.specs.Load.{joint, lone_ring, jointed, counted, extended, right_joints, selected_before, answered_before, load_record, loading, requested}
use Rattle.rules.specs.Read.{loop_uses, read}
use Rattle.rules.specs.Groups.{moved, joined, join_groups, group_numbers}
use Rattle.rules.specs.Pair.{pair_two, each_once, take_predecessor, take_predecessors, last_of, pair_round, pair_uses, complete, pair}
use Rattle.rules.specs.Rules.{table_of}
use Rattle.rules.specs.Merge.{joins_faces, surface_step, merge_step, removed_uses, merge_faces}
use Rattle.rules.specs.VertexLoops.{already_there, keep_unless_there}
use Rattle.rules.specs.Walk.{pass, successor_of, passed_of, successors, passed_counts, circuit, loop_step}
use Rattle.rules.specs.Fans.{fan_step, start_points}
use Rattle.rules.specs.Contact.{edge_touches, touches, contact_points, shared_points}
use Rattle.rules.specs.Edges.{edge_data, item_of, face_loop}
use Rattle.rules.specs.Join.{ends_from, is_place, one_for_two, replaced_in, joined_edge, join_edges, join_at, ring_at, may_join, at_corner, sweep, maximal_edges}
use Rattle.rules.specs.Shells.{orient_shell, enclosing_shell, nest, lumps, lump_labels}
use Rattle.rules.specs.Body.{body_face, body_faces, solid_body, face_records, lump_records, body_records}
use Rattle.rules.specs.Sew.{walks_of, walked, fans_of, fanned, unjoined, edged, through_joining, lumps_clear, body_of, solid, rebuild, sewn}
use Rattle.rules.specs.Sew.{sewn_with_table}
use Rattle.rules.specs.Stage.{lump_fields, read_stage, pair_stage, merge_stage, vertex_loop_stage, walk_stage, walk_stage_with_table, loop_stage, fan_stage, edge_stage, joining_stage, shell_stage}
use Rattle.rules.specs.Stage.{lump_stage}
use Rattle.rules.specs.Listing.{digits_before, word_of, fields_text, sewn_records, records_with_table}
use Rattle.rules.specs.Rows.{read_rows, pair_rows, merge_rows, vertex_loop_rows, walk_rows, loop_rows, fan_rows, table_rows, edge_rows, joining_rows, shell_rows, lump_rows_from}
use Rattle.rules.specs.Rows.{lump_rows, staged_rows, row_text, stage_listing, walk_rows_with_table}
use Rattle.rules.specs.Operation.{stage_number, numbered_among, stage_of, is_asked}

-- nothing but its line of names
unfoldable pub computes : Unit {0}
unfolding flat_map from has repeats same times least all some keep positions position sum_of neighbours_from
    neighbours iterate orbit fault_number need throughout for_each FourAnswers le16 le32 fields_in bytes32
    whole_record frame_at taking frames_from framed items_of find surface_number verdict_number numbered
    surface_answer verdict on_record decided ask_same ordered kind_of number_of right_length part_of right_position
    limit_passed ends_permitted items_permitted fields_permitted question_length question_of joint lone_ring jointed
    counted extended right_joints selected_before answered_before load_record loading requested loop_uses read moved
    joined join_groups group_numbers pair_two each_once take_predecessor take_predecessors last_of pair_round
    pair_uses complete pair table_of joins_faces surface_step merge_step removed_uses merge_faces already_there
    keep_unless_there pass successor_of passed_of successors passed_counts circuit loop_step fan_step start_points
    edge_touches touches contact_points shared_points edge_data item_of face_loop ends_from is_place one_for_two
    replaced_in joined_edge join_edges join_at ring_at may_join at_corner sweep maximal_edges orient_shell
    enclosing_shell nest lumps lump_labels body_face body_faces solid_body face_records lump_records body_records
    walks_of walked fans_of fanned unjoined edged through_joining lumps_clear body_of solid rebuild sewn
    sewn_with_table lump_fields read_stage pair_stage merge_stage vertex_loop_stage walk_stage walk_stage_with_table
    loop_stage fan_stage edge_stage joining_stage shell_stage lump_stage digits_before word_of fields_text
    sewn_records records_with_table read_rows pair_rows merge_rows vertex_loop_rows walk_rows loop_rows fan_rows
    table_rows edge_rows joining_rows shell_rows lump_rows_from lump_rows staged_rows row_text stage_listing
    walk_rows_with_table stage_number numbered_among stage_of is_asked
computes = tt
