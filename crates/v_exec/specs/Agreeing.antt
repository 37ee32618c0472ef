-- Names stand for the same to the rules of the grammar and to what expressions mean.
use Rattle.std.specs.Prelude.{◌≡◌, ℕ, true, ⊤, is_some, List, Option, Some, None}
use Rattle.v_tree.specs.Names.{Name}
use Rattle.v_tree.specs.Scopes.{Thing, value, memory, function, result, part}
use Rattle.v_tree.specs.ExprRules.{Around}
use Rattle.v_meaning.specs.Scopes as S

abbrev pub IsVector : ℕ → S.Named → Type 0
IsVector width n = (n.width ≡ width) × (n.words ≡ None)

abbrev pub IsFunction : ℕ → List ℕ → S.Callee → Type 0
IsFunction width inputs c = (c.width ≡ width) × (c.inputs ≡ inputs)

abbrev pub ThingAgrees : Option Thing → S.Named → S.Callee → Type 0
ThingAgrees None n c = ⊤
ThingAgrees (Some (value kind width ranged)) n c = IsVector width n
ThingAgrees (Some (memory width ranged)) n c = (n.width ≡ width) × (is_some n.words ≡ true)
ThingAgrees (Some (function width inputs)) n c = IsFunction width inputs c
ThingAgrees (Some (result width ranged inputs)) n c = IsVector width n × IsFunction width inputs c
ThingAgrees (Some part) n c = ⊤

-- what names stand for where an expression stands, and in a scope
abbrev pub Agrees : Around → S.Scope → Type 0
Agrees around sc = (name : Name) → ThingAgrees (around.scope name) (S.named sc.names name) (sc.callee name)
