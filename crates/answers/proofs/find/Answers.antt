use Rattle.std.proofs.Common.{rules, tests, ap, ◌∙◌, get_or}
use Rattle.std.specs.List.{find as list_find}
use mathlib.Core.List.{map}
use Rattle.std.proofs.lemmas.Iterator.{YieldsList-from_map}
use Rattle.std.proofs.lemmas.Iterator.Consumers.{YieldsList-at, YieldsList-from_first}
use Rattle.std.proofs.lemmas.Iterator.Search.{find_from_yields_List}
use Rattle.answers.specs.Question.{one_question, question_in}
use Rattle.answers.specs.QuestionLaws.{equal_one}
use Rattle.answers.specs.Index.{next_answer, answers_on}
use Rattle.answers.specs.ChainLaws.{place_in, found_for}
use Rattle.answers.proofs.find.Goals as goal

pub new-requires : goal.new-requires
unfolding next_answer
new-requires c = c.requires.1.falling

pub returns : goal.returns
unfolding next_answer
returns c =
    let raw = c.args.raw.now in
    let found = find_from_yields_List (λ p. one_question (question_in raw.bytes.now p) c.args.q) _ _ c.find.result c.find.ensures.ran
    (YieldsList-from_map _ (place_in raw.index.now) (YieldsList-at c.map.ensures.source (YieldsList-from_first (λ h. h) (λ hs. hs) _ c.new.ensures)) c.map.ensures.closure
    (λ x r q k. search (rules, tests)))
    (λ x b q k. search (rules, tests, equal_one)) in
    let head = c.get.ensures.0 ∙ ap (λ b. get_or raw.index.now b 0) c.bucket.ensures.0 in
    let ends = found ∙ ap (λ e. list_find (λ p. one_question (question_in raw.bytes.now p) c.args.q) (map (place_in raw.index.now) (answers_on raw.index.now e))) head
    ∙ found_for raw.bytes.now raw.index.now c.args.q c.requires.1 in
    search rules
