-- The helper functions that a text calls.
use Rattle.std.specs.Prelude.{◌≡◌, ⊤, ◌<◌, List, [], ◌∷◌, ◌++◌}
use Rattle.row_machine.specs.Valuation.{Member}
use Rattle.v_tree.specs.declared.names.Helper.{Helper}
use Rattle.v_tree.specs.Printing.{helper_text}
use Rattle.v_meaning.specs.Scopes.{Scope}
use Rattle.two_state.specs.Kinds.{Helps, HasBits}

-- each one stands in the text under its name
abbrev pub EachHelps : List Helper → Scope → Type 0
EachHelps [] sc = ⊤
EachHelps (h ∷ hs) sc = Helps h.kind h.width (sc.callee (helper_text h)) × EachHelps hs sc

-- its sizes are at least 1
abbrev pub IsSized : Helper → Type 0
IsSized h = (0 < h.width) × HasBits h.kind

abbrev pub AllSized : List Helper → Type 0
AllSized [] = ⊤
AllSized (h ∷ hs) = IsSized h × AllSized hs

-- each one stands in the list once
abbrev pub AllOnce : List Helper → Type 0
AllOnce [] = ⊤
AllOnce (h ∷ hs) = (Member hs h → ⊥) × AllOnce hs

-- Helpers, and more of them. If each size is at least 1 and each one stands there once, that stays so.
pub record Grows (old new : List Helper) : Type 0 where
  pub more : List Helper
  pub is : new ≡ old ++ more
  pub sized : AllSized old → AllSized new
  pub once : AllOnce old → AllOnce new
