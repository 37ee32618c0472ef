-- Modules by their names and by their numbers.
use Rattle.std.proofs.Common.{◌≡◌, ℕ, zero, suc, ◌+◌, Bool, true, false, cond, List, [], ◌∷◌, map, slice_get, Option, None, Some, refl, ap, ◌∙◌, if◌then◌else◌, arith}
use Rattle.std.specs.Str.{bytes_eq}
use Rattle.v_tree.specs.Names.{Name}
use Rattle.v_tree.specs.declared.items.VItem.{VItem}
use Rattle.v_tree.specs.declared.items.VModule.{VModule}
use Rattle.v_meaning.specs.Modules.{signals}
use Rattle.v_meaning.specs.Modules as M
use Rattle.v_rules.specs.Tables.{numbers_from, no_numbers}
use Rattle.v_modules.specs.declared.table.Table.{Table}
use Rattle.v_modules.specs.Tables.{items_of, items_in}
use Rattle.v_processes.specs.Connections.{ports_of}
use Rattle.v_processes.specs.Naming.{items_numbered, table_numbered}
use Rattle.v_processes.specs.Processes.{items_at, items_or_none}

item-by : (all : List VModule) (k : ℕ) (m : VModule) (b : Bool) (o : Option ℕ) (is : List VItem) → slice_get all k ≡ Some m → items_numbered all o ≡ is
    → items_numbered all (if b then Some k else o) ≡ cond b m.items is
item-by all k m true o is e h = ap items_or_none e
item-by all k m false o is e h = h

items-from : (all : List VModule) (n : ℕ) (ms : List VModule) (name : Name) → ((k : ℕ) → slice_get all (n + k) ≡ slice_get ms k) → items_numbered all (numbers_from n ms no_numbers name) ≡ M.items_of ms name
items-from all n [] name h = refl
items-from all n (m ∷ ms) name h =
    item-by all n m (bytes_eq m.name name) (numbers_from (suc n) ms no_numbers name) (M.items_of ms name) (ap (slice_get all) (zero-more n) ∙ h 0)
    (items-from all (suc n) ms name (λ k. ap (slice_get all) (suc-more n k) ∙ h (suc k)))
  where
    zero-more : (n : ℕ) → n ≡ n + 0
    zero-more n = omega arith

    suc-more : (n k : ℕ) → suc n + k ≡ n + suc k
    suc-more n k = omega arith

pub items-named : (ms : List VModule) (name : Name) (o : Option ℕ) → o ≡ numbers_from 0 ms no_numbers name → items_numbered ms o ≡ M.items_of ms name
items-named ms name o e = ap (items_numbered ms) e ∙ items-from ms 0 ms name (λ k. ap (slice_get ms) (none-more k))
  where
    none-more : (k : ℕ) → 0 + k ≡ k
    none-more k = omega arith

-- tables have the items of their modules
table-at : (ts : List Table) (ms : List VModule) (k : ℕ) → map items_of ts ≡ map items_in ms → ports_of (slice_get ts k) ≡ signals (items_at ms k)
table-at [] [] k e = refl
table-at [] (m ∷ ms) k e = absurd (cc)
table-at (t ∷ ts) [] k e = absurd (cc)
table-at (t ∷ ts) (m ∷ ms) zero e = let f : items_of t ≡ items_in m = cc in ap signals f
table-at (t ∷ ts) (m ∷ ms) (suc k) e = table-at ts ms k (cc)

table-numbered : (ts : List Table) (ms : List VModule) (o : Option ℕ) → map items_of ts ≡ map items_in ms → ports_of (table_numbered ts o) ≡ signals (items_numbered ms o)
table-numbered ts ms None e = refl
table-numbered ts ms (Some k) e = table-at ts ms k e

pub table-named : (ts : List Table) (ms : List VModule) (name : Name) (o : Option ℕ) (t : Option Table) → map items_of ts ≡ map items_in ms → o ≡ numbers_from 0 ms no_numbers name → t ≡ table_numbered ts o
    → ports_of t ≡ signals (M.items_of ms name)
table-named ts ms name o t e f g = ap ports_of g ∙ table-numbered ts ms o e ∙ ap signals (items-named ms name o f)

pub ruleset naming = (items-named, table-named)
