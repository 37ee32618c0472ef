use Rattle.std.specs.Prelude.{◌++◌, ◌||◌, ℕ, List, [], ◌∷◌, Option, Some, None, Bool, true, false, nat_eq, not, cond}
use Rattle.ll_engine.specs.declared.table.Part.{Part}
use Rattle.ll_engine.specs.declared.table.Part.TheVariants.{Term, Non, Maybe, Many, Chain}
use Rattle.ll_engine.specs.declared.table.Row.{Row}
use Rattle.ll_engine.specs.declared.rules.Rule.{Rule}
use Rattle.ll_engine.specs.declared.derive.Target.{Target}
use Rattle.ll_engine.specs.declared.derive.Target.TheVariants.{Symbol, Head}
use Rattle.ll_engine.specs.Marks.{marked}
use Rattle.ll_engine.specs.Grammar.{named}

-- The rules by which a table's heads are marked.

abbrev pub rule : ℕ → List ℕ → Rule
rule h gs = record { to = h; from = gs }

-- the heads that must be read
abbrev pub nons : List Part → List ℕ
nons [] = []
nons (Term a ∷ ps) = nons ps
nons (Non h ∷ ps) = h ∷ nons ps
nons (Maybe h ∷ ps) = nons ps
nons (Many h ∷ ps) = nons ps
nons (Chain h ∷ ps) = nons ps

abbrev pub has_symbol : List Part → Bool
has_symbol [] = false
has_symbol (Term a ∷ ps) = true
has_symbol (Non h ∷ ps) = has_symbol ps
has_symbol (Maybe h ∷ ps) = has_symbol ps
has_symbol (Many h ∷ ps) = has_symbol ps
has_symbol (Chain h ∷ ps) = has_symbol ps

-- a head has a text, or without symbols an empty one, where the heads of one of its rows do
abbrev pub ground_rules : Bool → List Row → List Rule
ground_rules symbols [] = []
ground_rules symbols (row ∷ rows) =
    cond (symbols || not (has_symbol row.parts)) (rule row.head (nons row.parts) ∷ []) [] ++ ground_rules symbols rows

-- the part may be left out, where the marked heads can be empty
abbrev pub may_skip : List Bool → Part → Bool
may_skip blank (Term a) = false
may_skip blank (Non h) = marked blank h
may_skip blank (Maybe h) = true
may_skip blank (Many h) = true
may_skip blank (Chain h) = true

-- the first part that is not left out
abbrev pub front : List Bool → List Part → Option Part
front blank [] = None
front blank (p ∷ ps) = cond (may_skip blank p) (front blank ps) (Some p)

abbrev pub is_symbol : Target → ℕ → Bool
is_symbol (Symbol a) x = nat_eq x a
is_symbol (Head g) x = false

abbrev pub is_head : Target → ℕ → Bool
is_head (Symbol a) x = false
is_head (Head g) x = nat_eq x g

abbrev pub name_rules : Target → ℕ → ℕ → List Rule
name_rules target h g = rule h (g ∷ []) ∷ cond (is_head target g) (rule h [] ∷ []) []

-- what the head starts with, by one of the parts in front
abbrev pub start_part : Target → ℕ → Part → List Rule
start_part target h (Term a) = cond (is_symbol target a) (rule h [] ∷ []) []
start_part target h (Non g) = name_rules target h g
start_part target h (Maybe g) = name_rules target h g
start_part target h (Many g) = name_rules target h g
start_part target h (Chain g) = name_rules target h g

abbrev pub start_row : List Bool → Target → ℕ → List Part → List Rule
start_row blank target h [] = []
start_row blank target h (p ∷ ps) =
    start_part target h p ++ cond (may_skip blank p) (start_row blank target h ps) []

abbrev pub start_rules : List Bool → Target → List Row → List Rule
start_rules blank target [] = []
start_rules blank target (row ∷ rows) = start_row blank target row.head row.parts ++ start_rules blank target rows

-- what a head leads with, where all is left out that may be
abbrev pub lead_row : ℕ → ℕ → Option Part → List Rule
lead_row a h None = []
lead_row a h (Some (Term x)) = cond (nat_eq x a) (rule h [] ∷ []) []
lead_row a h (Some (Non m)) = rule h (m ∷ []) ∷ []
lead_row a h (Some (Maybe m)) = []
lead_row a h (Some (Many m)) = []
lead_row a h (Some (Chain m)) = []

abbrev pub lead_rules : List Bool → ℕ → List Row → List Rule
lead_rules blank a [] = []
lead_rules blank a (row ∷ rows) = lead_row a row.head (front blank row.parts) ++ lead_rules blank a rows

-- what comes behind the head `h` in a row of the head `g`, by the first part behind it that is not left out
abbrev pub behind_part : List Bool → ℕ → ℕ → ℕ → Option Part → List Rule
behind_part leads a h g None = rule h (g ∷ []) ∷ []
behind_part leads a h g (Some (Term x)) = cond (nat_eq x a) (rule h [] ∷ []) []
behind_part leads a h g (Some (Non m)) = cond (marked leads m) (rule h [] ∷ []) []
behind_part leads a h g (Some (Maybe m)) = []
behind_part leads a h g (Some (Many m)) = []
behind_part leads a h g (Some (Chain m)) = []

abbrev pub follow_part : List Bool → ℕ → Option ℕ → ℕ → Option Part → List Rule
follow_part leads a None g x = []
follow_part leads a (Some h) g x = behind_part leads a h g x

abbrev pub follow_row : List Bool → List Bool → ℕ → ℕ → List Part → List Rule
follow_row blank leads a g [] = []
follow_row blank leads a g (p ∷ ps) =
    follow_part leads a (named p) g (front blank ps) ++ follow_row blank leads a g ps

abbrev pub follow_rules : List Bool → List Bool → ℕ → List Row → List Rule
follow_rules blank leads a [] = []
follow_rules blank leads a (row ∷ rows) =
    follow_row blank leads a row.head row.parts ++ follow_rules blank leads a rows
