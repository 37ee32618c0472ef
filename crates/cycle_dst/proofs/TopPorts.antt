-- The inputs of the top, by the number of its module.
use Rattle.std.proofs.Common.{◌≡◌, ℕ, suc, ◌+◌, Bool, true, false, cond, List, [], ◌∷◌, ◌++◌, map, filter, flat_map, Option, Some, None, slice_get, refl, sym, ap, ◌∙◌, arith}
use Rattle.std.specs.Str.{bytes_eq}
use Rattle.v_tree.specs.Names.{Name}
use Rattle.v_tree.specs.Rules.{module_named}
use Rattle.v_tree.specs.declared.items.VModule.{VModule}
use Rattle.v_meaning.specs.Scopes.{named}
use Rattle.v_meaning.specs.Modules.{signals, kind_of, items_of}
use Rattle.v_meaning.specs.Machine.{is_input}
use Rattle.v_rules.specs.Tables.{numbers_from, no_numbers}
use Rattle.v_modules.specs.Tables as T
use Rattle.v_modules.specs.declared.table.Table.{Table}
use Rattle.v_processes.specs.Processes.{items_at}
use Rattle.v_processes.specs.Naming.{items_numbered}
use Rattle.v_processes.proofs.Named.{items-named}
use Rattle.v_processes.proofs.Entering.{table-items, no-table}
use Rattle.v_processes.proofs.Kept.{numbered_alike}
use Rattle.cycle_dst.specs.Designs.{top_ports}
use Rattle.cycle_dst.specs.Ports.{number_in, input_named, inputs_if, inputs_in}

pub ruleset named_alike = (numbered_alike)

-- the module with a number is the one with the name
abbrev Finds : List VModule → Option VModule → Option ℕ → Type 0
Finds all o None = o ≡ None
Finds all o (Some k) = slice_get all k ≡ o

finds-from : (all : List VModule) (n : ℕ) (ms : List VModule) (name : Name) → ((k : ℕ) → slice_get all (n + k) ≡ slice_get ms k) → Finds all (module_named ms name) (numbers_from n ms no_numbers name)
finds-from all n [] name h = refl
finds-from all n (m ∷ ms) name h =
    by (bytes_eq m.name name) (ap (slice_get all) (zero-more n) ∙ h 0) (numbers_from (suc n) ms no_numbers name)
    (finds-from all (suc n) ms name (λ k. ap (slice_get all) (suc-more n k) ∙ h (suc k)))
  where
    zero-more : (n : ℕ) → n ≡ n + 0
    zero-more n = omega arith

    suc-more : (n k : ℕ) → suc n + k ≡ n + suc k
    suc-more n k = omega arith

    by : (b : Bool) → slice_get all n ≡ Some m → (o : Option ℕ) → Finds all (module_named ms name) o → Finds all (cond b (Some m) (module_named ms name)) (cond b (Some n) o)
    by true here o h = here
    by false here o h = h

finds : (ms : List VModule) (name : Name) → Finds ms (module_named ms name) (numbers_from 0 ms no_numbers name)
finds ms name = finds-from ms 0 ms name (λ k. ap (slice_get ms) (none-more k))
  where
    none-more : (k : ℕ) → 0 + k ≡ k
    none-more k = omega arith

kept-flat : {A : Type 0} (t : Name → Bool) (f : Name → A) (ns : List Name) → flat_map (λ n. cond (t n) (f n ∷ []) []) ns ≡ map f (filter t ns)
kept-flat t f [] = refl
kept-flat t f (n ∷ ns) = by (t n) (kept-flat t f ns)
  where
    by : (b : Bool) → flat_map (λ n. cond (t n) (f n ∷ []) []) ns ≡ map f (filter t ns) → cond b (f n ∷ []) [] ++ flat_map (λ n. cond (t n) (f n ∷ []) []) ns ≡ map f (cond b (n ∷ filter t ns) (filter t ns))
    by true h = ap (λ l. f n ∷ l) h
    by false h = h

none-flat : (ns : List Name) → flat_map (input_named []) ns ≡ []
none-flat [] = refl
none-flat (n ∷ ns) = none-flat ns

inputs-by : (ms : List VModule) (top : Name) (t : Option Table) (m : Option VModule) → module_named ms top ≡ m → ((x : Table) → t ≡ Some x → signals (T.items_of x) ≡ signals (items_of ms top))
    → (t ≡ None → signals (items_of ms top) ≡ []) → inputs_if t m ≡ inputs_in ms top
inputs-by ms top None None named some none = sym (ap (λ o. map (number_in (signals (items_of ms top))) (filter (λ n. is_input (kind_of (signals (items_of ms top)) n)) (top_ports o))) named)
inputs-by ms top (Some t) None named some none = sym (ap (λ o. map (number_in (signals (items_of ms top))) (filter (λ n. is_input (kind_of (signals (items_of ms top)) n)) (top_ports o))) named)
inputs-by ms top None (Some m) named some none =
    sym (none-flat m.ports) ∙ ap (λ ss. flat_map (input_named ss) m.ports) (sym (none refl))
    ∙ kept-flat (λ n. is_input (kind_of (signals (items_of ms top)) n)) (number_in (signals (items_of ms top))) m.ports
    ∙ sym (ap (λ o. map (number_in (signals (items_of ms top))) (filter (λ n. is_input (kind_of (signals (items_of ms top)) n)) (top_ports o))) named)
inputs-by ms top (Some t) (Some m) named some none =
    ap (λ ss. flat_map (input_named ss) m.ports) (some t refl)
    ∙ kept-flat (λ n. is_input (kind_of (signals (items_of ms top)) n)) (number_in (signals (items_of ms top))) m.ports
    ∙ sym (ap (λ o. map (number_in (signals (items_of ms top))) (filter (λ n. is_input (kind_of (signals (items_of ms top)) n)) (top_ports o))) named)

number-found : (ms : List VModule) (top : Name) (o : Option ℕ) (k : ℕ) → o ≡ numbers_from 0 ms no_numbers top → o ≡ Some k → slice_get ms k ≡ module_named ms top
number-found ms top o k is some =
    let e : numbers_from 0 ms no_numbers top ≡ Some k = sym is ∙ some in
    by (numbers_from 0 ms no_numbers top) e (finds ms top)
  where
    by : (p : Option ℕ) → p ≡ Some k → Finds ms (module_named ms top) p → slice_get ms k ≡ module_named ms top
    by None e h = absurd (cc)
    by (Some j) e h = let same : j ≡ k = cc in ap (slice_get ms) (sym same) ∙ h

-- with a number
pub top-some : (ts : List Table) (ms : List VModule) (top : Name) (o : Option ℕ) (k : ℕ) (t : Option Table) (m : Option VModule) (ns : List ℕ) → map T.items_of ts ≡ map T.items_in ms
    → o ≡ numbers_from 0 ms no_numbers top → o ≡ Some k → t ≡ slice_get ts k → m ≡ slice_get ms k → ns ≡ inputs_if t m → ns ≡ inputs_in ms top
top-some ts ms top o k t m ns tabled is some table here got =
    let items : items_at ms k ≡ items_of ms top = sym (ap (items_numbered ms) some) ∙ items-named ms top o is in
    got
    ∙ inputs-by ms top t m (sym (number-found ms top o k is some) ∙ sym here) (λ x e. ap signals (table-items ts ms k x tabled (sym table ∙ e) ∙ items))
    (λ e. ap signals (sym items ∙ no-table ts ms k tabled (sym table ∙ e)))

-- without one
pub top-none : (ms : List VModule) (top : Name) (o : Option ℕ) (ns : List ℕ) → o ≡ numbers_from 0 ms no_numbers top → o ≡ None → ns ≡ [] → ns ≡ inputs_in ms top
top-none ms top o ns is none got =
    got ∙ sym (ap (λ p. map (number_in (signals (items_of ms top))) (filter (λ n. is_input (kind_of (signals (items_of ms top)) n)) (top_ports p))) (by (numbers_from 0 ms no_numbers top) (sym is ∙ none) (finds ms top)))
  where
    by : (p : Option ℕ) → p ≡ None → Finds ms (module_named ms top) p → module_named ms top ≡ None
    by None e h = h
    by (Some j) e h = absurd (cc)

pub ruleset top = (top-none, top-some)
