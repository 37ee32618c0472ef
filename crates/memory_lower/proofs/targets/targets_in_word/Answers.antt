use Rattle.std.proofs.Common.{sym, subst}
use Rattle.target_lower.specs.Made.{PutsIndices}
use Rattle.target_lower.proofs.Making.{made-shaped, made-short}
use Rattle.target_lower.proofs.Stepping.{ok-one}
use Rattle.memory_lower.specs.Made.{IsInWordFor, WordTargets}
use Rattle.memory_lower.proofs.targets.targets_in_word.Goals as goal

pub word_targets-requires-clause-shaped : goal.word_targets-requires-clause-shaped
word_targets-requires-clause-shaped c =
    let within = c.args.within in
    let names = c.args.names.now in
    let functions = c.args.functions.now in
    let hs = c.put_indices.new.helpers in
    let inner = c.args.inner.now in
    let ps = c.as_slice.result.now in
    let first = c.new-indices.result in
    let puts = subst (PutsIndices within names functions hs inner first) (sym c.as_slice.ensures) c.in_ok-put_indices.ensures.puts in
    made-shaped within names functions hs inner ps c.requires.typed (subst (λ l. PutsIndices within names functions hs inner l ps) c.new-indices.ensures puts)

pub word_targets-requires-clause-short : goal.word_targets-requires-clause-short
word_targets-requires-clause-short c =
    let within = c.args.within in
    let names = c.args.names.now in
    let functions = c.args.functions.now in
    let hs = c.put_indices.new.helpers in
    let inner = c.args.inner.now in
    let ps = c.as_slice.result.now in
    let first = c.new-indices.result in
    let puts = subst (PutsIndices within names functions hs inner first) (sym c.as_slice.ensures) c.in_ok-put_indices.ensures.puts in
    made-short within names functions hs inner ps (subst (λ l. PutsIndices within names functions hs inner l ps) c.new-indices.ensures puts)

pub returns-clause-made : goal.returns-clause-made
returns-clause-made c =
    let within = c.args.within in
    let names = c.args.names.now in
    let functions = c.args.functions.now in
    let hs = c.put_indices.new.helpers in
    let inner = c.args.inner.now in
    let ps = c.as_slice.result.now in
    let first = c.new-indices.result in
    let puts = subst (PutsIndices within names functions hs inner first) (sym c.as_slice.ensures) c.in_ok-put_indices.ensures.puts in
    let own = subst (λ l. PutsIndices within names functions hs inner l ps) c.new-indices.ensures puts in
    ok-one (IsInWordFor names c.args.signal c.args.of.now inner c.args.word.now ps) (WordTargets within names functions hs c.args.signal c.args.of.now inner c.args.word.now) c.word_targets.result c.word_targets.ensures
    (λ x h. record { indices = ps; puts = own; in_word = h })
