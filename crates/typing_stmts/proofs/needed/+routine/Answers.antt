use Rattle.std.proofs.Common.{◌≡◌, ◌<◌, ◌-◌, ℕ, Some, None, arith, rules, sym, ap, ◌∙◌, subst}
use Rattle.std.specs.Prelude.{Result, Ok, Err}
use Rattle.std.proofs.lemmas.Result.{err_from_is_err_and}
use Rattle.expr_type.specs.declared.halt.Halt.{Halt}
use Rattle.expr_type.specs.Functions as F
use Rattle.expr_type.specs.Names.{Context}
use Rattle.routine_fits.specs.Sound.{AllSoundFunctions}
use Rattle.source_routines.specs.Texts.{text_of}
use Rattle.typing_parts.specs.Typists.{CalledTo}
use Rattle.typing_names.specs.Texts.{context_of}
use Rattle.typing_walks.specs.Keeps.{Surrounded}
use Rattle.typing_stmts.specs.Around.{IsPlaced, around, with_depth}
use Rattle.typing_stmts.proofs.Calling.{added-there, by-depth, known-there, no-text, text-stops, too-deep}
use Rattle.typing_stmts.proofs.Surrounding.{around-text, knows, one-sound, typed-there, written-head, written-items}
use Rattle.typing_stmts.proofs.needed.+routine.Goals as goal

-- by how deep calls lie one in another
pub routine-returns-then-depth-eq0-clause-value : goal.routine-returns-then-depth-eq0-clause-value
routine-returns-then-depth-eq0-clause-value t c =
    too-deep c.args.depth (around c.args.source.now.tree.now c.args.source.now.names.now c.args.frame.frame.now c.args.at) c.args.declaration c.args.known.now.functions c.if-depth-eq0.true

pub routine-returns-in-None-clause-value : goal.routine-returns-in-None-clause-value
routine-returns-in-None-clause-value t c =
    let deep : 0 < c.args.depth = omega arith in
    no-text c.args.depth (c.args.depth - 1) (around c.args.source.now.tree.now c.args.source.now.names.now c.args.frame.frame.now c.args.at) c.args.declaration c.args.known.now.functions (omega arith) (sym c.in-None.ensures)

pub routine-needed-requires : goal.routine-needed-requires
routine-needed-requires t c =
    let text : (around c.args.source.now.tree.now c.args.source.now.names.now c.args.frame.frame.now c.args.at).text c.args.declaration ≡ Some (text_of c.in-Some.found) = sym c.in-Some.ensures in
    search rules

pub routine-returns-in-Some-clause-value : goal.routine-returns-in-Some-clause-value
routine-returns-in-Some-clause-value t c =
    let k = around c.args.source.now.tree.now c.args.source.now.names.now c.args.frame.frame.now c.args.at in
    let deep : 0 < c.args.depth = omega arith in
    by-depth c.args.depth (c.args.depth - 1) k c.args.declaration (Some (text_of c.in-Some.found)) c.needed.result c.args.known.now.functions c.needed.new.known.functions (omega arith) (sym c.in-Some.ensures) c.needed.ensures.value

-- a function that is known
pub needed-returns-in_ok-number-in-Some-clause-value : goal.needed-returns-in_ok-number-in-Some-clause-value
needed-returns-in_ok-number-in-Some-clause-value t c =
    let tree = c.args.source.now.tree.now in
    let names = c.args.source.now.names.now in
    let f = c.args.frame.frame.now in
    let x = text_of c.args.found in
    let fs = c.args.known.now.functions in
    subst (λ (m : ℕ). CalledTo (Ok m) (F.routine_text (Some x) (with_depth tree names f c.args.at c.args.below) c.args.declaration fs) fs) (sym c.in_ok-number-in-Some.ensures)
    (known-there tree names f c.args.at c.args.below c.args.declaration x c.in_ok-place.place.0 c.in_ok-place.place.1 fs c.in_ok-place.ensures c.in-Some.place c.name.result c.name.ensures c.in-Some.ensures.first)

-- or isn't
pub needed-unknown-requires : goal.needed-unknown-requires
needed-unknown-requires t c =
    let unknown : F.known_from 0 c.in_ok-place.place.0 (F.name_of (text_of c.args.found)) c.in_ok-place.place.1 c.args.known.now.functions ≡ None =
    subst (λ (m : ℕ). F.known_from 0 c.in_ok-place.place.0 m c.in_ok-place.place.1 c.args.known.now.functions ≡ None) c.name.ensures c.in-None.ensures.first in
    let placed : IsPlaced c.args.source.now.tree.now c.args.source.now.names.now c.args.frame.frame.now c.args.declaration (text_of c.args.found) c.in_ok-place.place.0 c.in_ok-place.place.1 = c.in_ok-place.ensures in
    search rules

-- it is typed and put behind those that are known
pub unknown-by_text-requires-clause-needs : goal.unknown-by_text-requires-clause-needs
unknown-by_text-requires-clause-needs t c =
    knows _ _ _ _ (context_of c.routine_text-text.result) (around c.args.source.now.tree.now c.args.source.now.names.now c.args.frame.frame.now c.args.at) c.args.below (ap (λ (z : Context). z.routine) c.routine_text-text.ensures)
    (λ n k is. ((let d = c.decreases in omega arith), (c.requires.sound, is))) (λ n s r u p. p.0) (λ n s r u p. p.1.0) (λ n s r u p. p.1.1)

pub unknown-by_text-requires-clause-names : goal.unknown-by_text-requires-clause-names
unknown-by_text-requires-clause-names t c =
    subst (λ (z : Context). Surrounded AllSoundFunctions z) (sym c.routine_text-text.ensures)
    (around-text c.args.source.now.tree.now c.args.source.now.names.now c.args.frame.frame.now c.args.at c.requires.sound c.args.below c.args.declaration)

pub unknown-by_text-requires-clause-written : goal.unknown-by_text-requires-clause-written
unknown-by_text-requires-clause-written t c =
    written-head c.args.source.now.tree.now c.args.source.now.names.now c.args.frame.frame.now c.args.at c.requires.sound c.args.declaration (text_of c.args.found) c.requires.text

pub unknown-by_text-requires-clause-items : goal.unknown-by_text-requires-clause-items
unknown-by_text-requires-clause-items t c =
    written-items c.args.source.now.tree.now c.args.source.now.names.now c.args.frame.frame.now c.args.at c.requires.sound c.args.declaration (text_of c.args.found) c.requires.text

pub unknown-appended-requires-clause-sound : goal.unknown-appended-requires-clause-sound
unknown-appended-requires-clause-sound t c =
    let tree = c.args.source.now.tree.now in
    let names = c.args.source.now.names.now in
    let f = c.args.frame.frame.now in
    let x = text_of c.args.found in
    let fs = c.args.known.now.functions in
    let gs = c.by_text.new.known.functions in
    one-sound tree names f c.args.at c.requires.sound c.args.below c.args.declaration x fs gs c.in_ok-function.function c.requires.text c.requires.ready.sound
    (typed-there tree names f c.args.at c.args.below c.args.declaration x c.args.instance c.args.path (context_of c.routine_text-text.result) (Ok c.in_ok-function.function) fs gs c.requires.placed c.routine_text-text.ensures c.in_ok-function.ensures.value)
    c.in_ok-function.ensures.ready.sound

pub unknown-returns-in_err-function-clause-value : goal.unknown-returns-in_err-function-clause-value
unknown-returns-in_err-function-clause-value t c =
    let tree = c.args.source.now.tree.now in
    let names = c.args.source.now.names.now in
    let f = c.args.frame.frame.now in
    let x = text_of c.args.found in
    let fs = c.args.known.now.functions in
    let gs = c.by_text.new.known.functions in
    let h = c.in_err-function.field-0.0 in
    let e = err_from_is_err_and c.from_residual.result c.from_residual.ensures.1 in
    subst (λ (r : Result ℕ Halt). CalledTo r (F.routine_text (Some x) (with_depth tree names f c.args.at c.args.below) c.args.declaration fs) gs) (sym (e.1 ∙ ap Err e.2))
    (text-stops tree names f c.args.at c.args.below c.args.declaration x c.args.instance c.args.path fs c.requires.placed h gs c.requires.unknown
    (typed-there tree names f c.args.at c.args.below c.args.declaration x c.args.instance c.args.path (context_of c.routine_text-text.result) (Err h) fs gs c.requires.placed c.routine_text-text.ensures c.in_err-function.ensures.value))

pub unknown-returns-clause-value : goal.unknown-returns-clause-value
unknown-returns-clause-value t c =
    let tree = c.args.source.now.tree.now in
    let names = c.args.source.now.names.now in
    let f = c.args.frame.frame.now in
    let x = text_of c.args.found in
    let fs = c.args.known.now.functions in
    let gs = c.by_text.new.known.functions in
    added-there tree names f c.args.at c.args.below c.args.declaration x c.args.instance c.args.path fs c.requires.placed c.in_ok-function.function gs c.appended.new.known.functions c.in_ok-appended.field-0 c.requires.unknown
    (typed-there tree names f c.args.at c.args.below c.args.declaration x c.args.instance c.args.path (context_of c.routine_text-text.result) (Ok c.in_ok-function.function) fs gs c.requires.placed c.routine_text-text.ensures c.in_ok-function.ensures.value)
    c.in_ok-appended.ensures.place c.in_ok-appended.ensures.ok
