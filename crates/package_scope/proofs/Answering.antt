-- The least break of a tree, by its tokens, its events and their table.
use Rattle.std.proofs.Common.{◌≡◌, ◌-◌, List, length, Option, Ok, Err, refl, sym, ap, subst, ◌∙◌}
use Rattle.std.specs.Prelude.{Result, IfOk}
use Rattle.std.specs.declared.alloc.AllocError.{AllocError}
use Rattle.sv_source.specs.declared.token.Token.{Token}
use Rattle.sv_tree.specs.declared.units.SourceTree.{SourceTree}
use Rattle.name_events.specs.declared.events.Event.{Event}
use Rattle.name_events.specs.Items.{events_of}
use Rattle.package_scope.specs.declared.breaks.Break.{Break}
use Rattle.package_scope.specs.declared.table.Table.{Table}
use Rattle.package_scope.specs.Rules.{least, all_breaks, names_break}
use Rattle.package_scope.specs.Tables.{steps, start, table_of}

names_break-is : (tree : SourceTree) → names_break tree ≡ least (all_breaks tree.tokens (table_of tree) (events_of tree))
unfolding names_break
names_break-is tree = refl

abbrev pub table_by : List Token → List Event → Table
table_by ts es = steps ts es (start (length ts - 1))

table_of-is : (tree : SourceTree) → table_of tree ≡ steps tree.tokens (events_of tree) (start (length tree.tokens - 1))
unfolding table_of
table_of-is tree = refl

pub named-is : (tree : SourceTree) (ts : List Token) (t : Table) (es : List Event) → es ≡ events_of tree → ts ≡ tree.tokens → t ≡ table_by ts es → t ≡ table_of tree
named-is tree ts t es is tokens named =
    named ∙ ap (λ us. table_by us es) tokens ∙ ap (λ fs. table_by tree.tokens fs) is ∙ sym (table_of-is tree)

pub broken-is : (tree : SourceTree) (ts : List Token) (t : Table) (es : List Event) (b : Option Break) → es ≡ events_of tree → ts ≡ tree.tokens → t ≡ table_by ts es
    → b ≡ least (all_breaks ts t es) → b ≡ names_break tree
broken-is tree ts t es b is tokens named e =
    e
    ∙ ap (λ (us : List Token). least (all_breaks us t es)) tokens
    ∙ ap (λ (fs : List Event). least (all_breaks tree.tokens t fs)) is
    ∙ ap (λ (u : Table). least (all_breaks tree.tokens u (events_of tree))) (named-is tree ts t es is tokens named)
    ∙ sym (names_break-is tree)

-- what both are, where neither wants memory
pub both-are : (r : Result (Table × Option Break) AllocError) (t : Table) (b : Result (Option Break) AllocError) (u : Table) (m n : Option Break)
    → IfOk r (λ x. ◌≡◌ {A = Result Table AllocError} (Ok t) (Ok x.0) × (b ≡ Ok x.1)) → t ≡ u → IfOk b (λ y. y ≡ m) → m ≡ n → IfOk r (λ x. (x.0 ≡ u) × (x.1 ≡ n))
both-are (Err e) t b u m n both named broken least_is = tt
both-are (Ok x) t b u m n both named broken least_is =
    let first : ◌≡◌ {A = Result Table AllocError} (Ok t) (Ok x.0) = both.0 in
    let table : t ≡ x.0 = cc in
    let break_is : x.1 ≡ m = subst (λ (o : Result (Option Break) AllocError). IfOk o (λ y. y ≡ m)) both.1 broken in
    (sym table ∙ named, break_is ∙ least_is)
