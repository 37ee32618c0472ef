use Rattle.std.proofs.Common.{◌≡◌, ◌+◌, ◌*◌, ◌++◌, ◌∷◌, drop, map}
use Rattle.expr_build.specs.Nodes.{behind_marks}
use Rattle.expr_build.specs.Expressions as means
use Rattle.expr_build.proofs.expressions.+expression.Given as goal

abbrev pub invariant-dimensions-loop-tree : goal.invariant-dimensions-loop-tree
invariant-dimensions-loop-tree l = l.dimensions ++ map (means.dimension_of (means.expr_within l.depth)) (drop l.tree-index l.trees) ≡ map (means.dimension_of (means.expr_within l.depth)) l.trees

abbrev pub invariant-selects-loop-tree : goal.invariant-selects-loop-tree
invariant-selects-loop-tree l = l.selects ++ map (means.select_of (means.expr_within l.depth)) (drop l.tree-index l.trees) ≡ map (means.select_of (means.expr_within l.depth)) l.trees

abbrev pub invariant-exprs_behind-loop-next : goal.invariant-exprs_behind-loop-next
invariant-exprs_behind-loop-next l = l.exprs ++ behind_marks (means.expr_within l.depth) (drop l.next-index l.rest) ≡ l.fn.first ∷ behind_marks (means.expr_within l.depth) l.rest

abbrev pub invariant-pattern_items-loop-next : goal.invariant-pattern_items-loop-next
invariant-pattern_items-loop-next l = l.items ++ behind_marks (means.pattern_item_of (means.expr_within l.depth)) (drop l.next-index l.rest) ≡ l.fn.first ∷ behind_marks (means.pattern_item_of (means.expr_within l.depth)) l.rest

abbrev pub invariant-value_ranges_behind-loop-next : goal.invariant-value_ranges_behind-loop-next
invariant-value_ranges_behind-loop-next l = l.ranges ++ behind_marks (means.value_range_of (means.expr_within l.depth)) (drop l.next-index l.rest) ≡ l.fn.first ∷ behind_marks (means.value_range_of (means.expr_within l.depth)) l.rest

abbrev pub invariant-chain-loop-tree : goal.invariant-chain-loop-tree
invariant-chain-loop-tree l = means.chain_of (means.expr_within l.depth) (means.level_of (means.expr_within l.depth) l.levels) l.left (drop l.tree-index l.rest) ≡ means.chain_of (means.expr_within l.depth) (means.level_of (means.expr_within l.depth) l.levels) l.fn.first l.rest

abbrev pub decreases-dimension : goal.decreases-dimension
decreases-dimension l = 1024 * l.depth + 3

abbrev pub decreases-dimensions : goal.decreases-dimensions
decreases-dimensions l = 1024 * l.depth + 5

abbrev pub decreases-select : goal.decreases-select
decreases-select l = 1024 * l.depth + 6

abbrev pub decreases-bracketed : goal.decreases-bracketed
decreases-bracketed l = 1024 * l.depth + 3

abbrev pub decreases-selects : goal.decreases-selects
decreases-selects l = 1024 * l.depth + 8

abbrev pub decreases-exprs_behind : goal.decreases-exprs_behind
decreases-exprs_behind l = 1024 * l.depth + 2

abbrev pub decreases-exprs : goal.decreases-exprs
decreases-exprs l = 1024 * l.depth + 4

abbrev pub decreases-default_item : goal.decreases-default_item
decreases-default_item l = 1024 * l.depth + 2

abbrev pub decreases-keyed_item : goal.decreases-keyed_item
decreases-keyed_item l = 1024 * l.depth + 2

abbrev pub decreases-pattern_item : goal.decreases-pattern_item
decreases-pattern_item l = 1024 * l.depth + 5

abbrev pub decreases-pattern_items : goal.decreases-pattern_items
decreases-pattern_items l = 1024 * l.depth + 7

abbrev pub decreases-pattern_from : goal.decreases-pattern_from
decreases-pattern_from l = 1024 * l.depth + 9

abbrev pub decreases-pattern : goal.decreases-pattern
decreases-pattern l = 1024 * l.depth + 11

abbrev pub decreases-cast_from : goal.decreases-cast_from
decreases-cast_from l = 1024 * l.depth + 13

abbrev pub decreases-cast : goal.decreases-cast
decreases-cast l = 1024 * l.depth + 15

abbrev pub decreases-optional_cast : goal.decreases-optional_cast
decreases-optional_cast l = 1024 * l.depth + 17

abbrev pub decreases-slice_size_from : goal.decreases-slice_size_from
decreases-slice_size_from l = 1024 * l.depth + 3

abbrev pub decreases-slice_size : goal.decreases-slice_size
decreases-slice_size l = 1024 * l.depth + 5

abbrev pub decreases-value_range : goal.decreases-value_range
decreases-value_range l = 1024 * l.depth + 3

abbrev pub decreases-value_ranges : goal.decreases-value_ranges
decreases-value_ranges l = 1024 * l.depth + 5

abbrev pub decreases-value_ranges_behind : goal.decreases-value_ranges_behind
decreases-value_ranges_behind l = 1024 * l.depth + 4

abbrev pub decreases-decimal : goal.decreases-decimal
decreases-decimal l = 1024 * l.depth + 19

abbrev pub decreases-stream : goal.decreases-stream
decreases-stream l = 1024 * l.depth + 10

abbrev pub decreases-replication : goal.decreases-replication
decreases-replication l = 1024 * l.depth + 10

abbrev pub decreases-concatenation : goal.decreases-concatenation
decreases-concatenation l = 1024 * l.depth + 10

abbrev pub decreases-braced : goal.decreases-braced
decreases-braced l = 1024 * l.depth + 14

abbrev pub decreases-named : goal.decreases-named
decreases-named l = 1024 * l.depth + 20

abbrev pub decreases-parenthesized : goal.decreases-parenthesized
decreases-parenthesized l = 1024 * l.depth + 20

abbrev pub decreases-braced_pattern : goal.decreases-braced_pattern
decreases-braced_pattern l = 1024 * l.depth + 20

abbrev pub decreases-type_primary : goal.decreases-type_primary
decreases-type_primary l = 1024 * l.depth + 20

abbrev pub decreases-system_call : goal.decreases-system_call
decreases-system_call l = 1024 * l.depth + 20

abbrev pub decreases-primary : goal.decreases-primary
decreases-primary l = 1024 * l.depth + 25

abbrev pub decreases-operated : goal.decreases-operated
decreases-operated l = 1024 * l.depth + l.operators + l.operators + 31

abbrev pub decreases-unary : goal.decreases-unary
decreases-unary l = 1024 * l.depth + l.operators + l.operators + 30

abbrev pub decreases-joined : goal.decreases-joined
decreases-joined l = 1024 * l.depth + 20 * l.levels + 605

abbrev pub decreases-chain : goal.decreases-chain
decreases-chain l = 1024 * l.depth + 20 * l.levels + 610

abbrev pub decreases-operation : goal.decreases-operation
decreases-operation l = 1024 * l.depth + 20 * l.levels + 600

abbrev pub decreases-expr_around : goal.decreases-expr_around
decreases-expr_around l = 1024 * l.depth + 900

abbrev pub decreases-expr : goal.decreases-expr
decreases-expr l = 1024 * l.depth

abbrev pub decreases-signing_cast : goal.decreases-signing_cast
decreases-signing_cast l = 1024 * l.depth + 20

abbrev pub decreases-name_primary : goal.decreases-name_primary
decreases-name_primary l = 1024 * l.depth + 22

abbrev pub decreases-call : goal.decreases-call
decreases-call l = 1024 * l.depth + 20

abbrev pub decreases-conditional : goal.decreases-conditional
decreases-conditional l = 1024 * l.depth + 880

abbrev pub decreases-boxed : goal.decreases-boxed
decreases-boxed l = 1024 * l.depth + 1

abbrev pub decreases-inside : goal.decreases-inside
decreases-inside l = 1024 * l.depth + 100

abbrev pub decreases-binary : goal.decreases-binary
decreases-binary l = 1024 * l.depth + 20 * l.levels + 604

abbrev pub decreases-operand : goal.decreases-operand
decreases-operand l = 1024 * l.depth + 20 * l.levels + 602
