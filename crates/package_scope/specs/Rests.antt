-- What is kept for `.*`: the ends of headers by their scopes, and the ports that are named.
use Rattle.std.specs.Prelude.{◌≡◌, ℕ, suc, List, [], ◌∷◌, Option, Some, None, is_some, nat_eq, if◌then◌else◌}
use Rattle.std.specs.List.{list_any}
use Rattle.indexmap.specs.IndexMap as map
use Rattle.package_scope.specs.declared.rests.Heads.{Heads}
use Rattle.package_scope.specs.declared.rests.Links.{Links}
use Rattle.package_scope.specs.declared.rests.Rests.{Rests}
use Rattle.package_scope.specs.declared.table.Link.{Link}
use Rattle.package_scope.specs.declared.table.Table.{Table}
use Rattle.package_scope.specs.Index.{under}
use Rattle.package_scope.specs.Lookup.{or_later}
use Rattle.package_scope.specs.Rules.{head_of, is_link_to}

abbrev pub end_in : Heads → ℕ → Option ℕ
end_in x = λ q. map.get nat_eq x.ends q

abbrev pub put_end : (ℕ → Option ℕ) → ℕ → ℕ → ℕ → Option ℕ
put_end ends scope declared = λ q. if nat_eq scope q then Some declared else ends q

abbrev pub end_or : Option ℕ → ℕ
end_or None = 0
end_or (Some n) = n

abbrev pub end_of : Heads → ℕ → ℕ
end_of x s = end_or (end_in x s)

-- the number of the first link of a name at an instance
abbrev pub link_from : ℕ → ℕ → List ℕ → List Link → Option ℕ
link_from n instance name [] = None
link_from n instance name (l ∷ ls) = or_later (is_link_to instance name l) n (link_from (suc n) instance name ls)

abbrev pub linked_under : Links → ℕ → List ℕ → Option ℕ
linked_under x instance name = under x.names x.slots instance name

pub record AreRests (t : Table) (x : Rests) : Type 0 where
  pub ends : (s : ℕ) → end_of x.heads s ≡ head_of s t.heads
  pub links : (n : ℕ) (name : List ℕ) → is_some (linked_under x.links n name) ≡ list_any (is_link_to n name) t.links
