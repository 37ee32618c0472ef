use Rattle.std.proofs.Common.{◌≡◌, true, Some, None, map, string_bytes, sym, ◌∙◌, subst}
use Rattle.command_line.specs.Words.{are_few, Few}
use Rattle.command_line.proofs.Drafted.{asked_one_by_one}
use Rattle.command_line.proofs.FewFiles.{few_asked}
use Rattle.command_line.proofs.words.read_words.Goals as goal

pub returns-in-Some-clause-answer : goal.returns-in-Some-clause-answer
returns-in-Some-clause-answer c =
    let few : are_few (map string_bytes c.args.words.now) ≡ true = cc in
    c.finished.ensures ∙ asked_one_by_one (map string_bytes c.args.words.now) (Some c.in-Some.draft) few (sym c.in-Some.is ∙ c.in_ok-draft.ensures)

pub returns-in-Some-clause-few : goal.returns-in-Some-clause-few
returns-in-Some-clause-few c = subst Few (sym (returns-in-Some-clause-answer c)) (few_asked (map string_bytes c.args.words.now))

pub returns-in-None-clause-answer : goal.returns-in-None-clause-answer
returns-in-None-clause-answer c =
    let few : are_few (map string_bytes c.args.words.now) ≡ true = cc in
    asked_one_by_one (map string_bytes c.args.words.now) None few (sym c.in-None.is ∙ c.in_ok-draft.ensures)
