-- What follows of a job whose index finds its answers: its lists, and how long they are.
use Rattle.std.specs.Prelude.{ℕ, ◌≡◌, List, length}
use Rattle.std.proofs.Common.{sym, ap, ◌∙◌}
use Rattle.lists.specs.Runs.{length_table}
use Rattle.rules.specs.declared.Counts.{Counts}
use Rattle.rules.specs.Job.{Job}
use Rattle.answers.specs.Index.{Indexed}
use Rattle.job.specs.Lists.{edge_in, edge_place, edges_in, face_byte, face_in, faces_in, answers_in, job_in}

module _ {bytes ix : List ℕ} {c : Counts} (i : Indexed bytes ix c) {j : Job} (is : job_in bytes ix c ≡ j) where
  pub faces_are : faces_in bytes ix c ≡ j.faces
  unfolding job_in
  faces_are = ap (λ (x : Job). x.faces) is

  pub answers_are : answers_in bytes ix c ≡ j.answers
  unfolding job_in
  answers_are = ap (λ (x : Job). x.answers) is

  pub edges_counted : c.edges ≡ length j.edges
  unfolding job_in edges_in
  edges_counted = sym (length_table (λ e. edge_in bytes (edge_place c e)) c.edges) ∙ ap (λ (x : Job). length x.edges) is

  pub faces_counted : c.faces ≡ length j.faces
  unfolding job_in faces_in
  faces_counted = sym (length_table (λ f. face_in bytes (face_byte ix f)) c.faces) ∙ ap (λ (x : Job). length x.faces) is
