-- Events are put behind those that stand there, so each part of a text is a step from events to events.
use Rattle.std.specs.Prelude.{ℕ, Bool, true, false, List, [], ◌∷◌, ◌++◌, Option, Some, None}
use Rattle.name_events.specs.declared.events.Event.{Event}
use Rattle.name_events.specs.declared.events.Event.TheVariants as E
use Rattle.name_events.specs.declared.events.Declared.{Declared}
use Rattle.name_events.specs.declared.events.Role.{Role}
use Rattle.name_events.specs.declared.events.SelectPath.TheVariants.{Alone}

abbrev pub Part : Type 0
Part = List Event → List Event

abbrev pub put : Event → Part
put e to = to ++ e ∷ []

abbrev pub nothing : Part
nothing to = to

abbrev pub put_if : Bool → Event → Part
put_if false e to = to
put_if true e to = put e to

abbrev pub in_turn : List Part → Part
in_turn [] to = to
in_turn (p ∷ ps) to = in_turn ps (p to)

abbrev pub maybe : Option Part → Part
maybe None to = to
maybe (Some p) to = p to

abbrev pub wrong : ℕ → Part
wrong at = put (E.Wrong at)

-- a name alone is used
abbrev pub uses : ℕ → Role → Part
uses name role = put (E.Uses None name role Alone)

-- a name is declared in the scope that is open, or in the one around it
abbrev pub declares : Declared → ℕ → ℕ → Part
declares what name last = put (E.Declares what name last false)

abbrev pub declares_outside : Declared → ℕ → Part
declares_outside what name = put (E.Declares what name name true)
