-- What is kept of a circuit is known in one way.
use Rattle.std.proofs.Common.{ℕ, List, [], ◌∷◌}
use mathlib.Core.HLevel.{×_prop, Unit-prop}
use denote.Struct.Props as logic
use Rattle.v_meaning.specs.Scopes.{Named, Scope}
use Rattle.v_exec.specs.Inside.{NamesFit}
use Rattle.v_processes.specs.declared.process.Does.{Does}
use Rattle.v_processes.specs.declared.process.Does.TheVariants as D
use Rattle.v_steps.specs.Steps.{DoesNarrow, DoesFit}

pub names-fit-prop : (ws : List ℕ) (ns : List Named) → IsProp (NamesFit ws ns)
names-fit-prop ws [] = Unit-prop
names-fit-prop ws (n ∷ ns) = ×_prop (hlevel logic.props) (names-fit-prop ws ns)

pub does-narrow-prop : (d : Does) (sc : Scope) → IsProp (DoesNarrow d sc)
does-narrow-prop (D.Assign to value) sc = hlevel logic.props
does-narrow-prop (D.Star body) sc = hlevel logic.props
does-narrow-prop (D.Edges edges body) sc = hlevel logic.props
does-narrow-prop (D.Into port value) sc = hlevel logic.props
does-narrow-prop (D.From to port) sc = hlevel logic.props

pub does-fit-prop : (d : Does) (ns : List Named) (ws : List ℕ) → IsProp (DoesFit d ns ws)
does-fit-prop (D.Assign to value) ns ws = names-fit-prop ws ns
does-fit-prop (D.Star body) ns ws = names-fit-prop ws ns
does-fit-prop (D.Edges edges body) ns ws = names-fit-prop ws ns
does-fit-prop (D.Into port value) ns ws = hlevel logic.props
does-fit-prop (D.From to port) ns ws = names-fit-prop ws ns

pub ruleset props = (logic.props, does-narrow-prop, does-fit-prop)
