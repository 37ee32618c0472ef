-- How deep instances are in each other.
use Rattle.std.specs.Prelude.{◌≡◌, ℕ, zero, suc, true, List, length, map}
use Rattle.v_tree.specs.Names.{Name, among}
use Rattle.v_tree.specs.Rules.{Keeps, instantiated}
use Rattle.v_tree.specs.declared.items.VDesign.{VDesign}
use Rattle.v_tree.specs.declared.items.VModule.{VModule}
use Rattle.v_tree.proofs.Induction.{Each}
use Rattle.v_meaning.specs.Modules.{items_of}

-- the instances in an instance of a module are less deep than so many levels
unfoldable pub Shallow : ℕ → List VModule → Name → Type 0
Shallow zero ms name = ⊥
Shallow (suc depth) ms name = Each (Shallow depth ms) (instantiated (items_of ms name))

-- Modules aren't recursive, so instances are no deeper than there are modules.
abbrev pub NeverDeeper : Type 0
NeverDeeper = (e : VDesign) (top : Name) → Keeps e → among (map (λ (m : VModule). m.name) e.modules) top ≡ true → Shallow (length e.modules) e.modules top
