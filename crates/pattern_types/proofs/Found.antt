-- Patterns whose names are looked up already are fitted as in the context.
use Rattle.std.proofs.Common.{◌≡◌, ℕ, Bool, true, false, not, cond, List, [], ◌∷◌, map, Option, Some, refl, ap, ◌∙◌}
use Rattle.std.specs.Prelude.{Ok}
use Rattle.sv_types.specs.declared.types.SvType.{SvType}
use Rattle.pattern_fit.specs.declared.pattern.Key.{Key}
use Rattle.pattern_fit.specs.declared.pattern.Key.TheVariants as K
use Rattle.expr_type.specs.Names.{Context, word}
use Rattle.expr_type.specs.Patterns.{Item, all_keys, fitted, fitted_by, has_members, key_in, keyed, taken_by}
use Rattle.expr_type.specs.Typings.{Checked, all_of, where_whole}
use Rattle.pattern_types.specs.declared.operand.ItemKey.{ItemKey}
use Rattle.pattern_types.specs.declared.operand.ItemKey.TheVariants as I
use Rattle.pattern_types.specs.Meaning.{Filled, Pattern, fitted_in, is_default, item_of, items_of, key_of, keys_of, parts_of, written}
use Rattle.pattern_types.specs.Named.{AllFound, IsFound}

key-found : (c : Context) (t : SvType) (key : ItemKey) → IsFound c key → key_of c.source t key ≡ key_in c t (written key)
key-found c t I.InPlace h = refl
key-found c t I.ByDefault h = refl
key-found c t (I.Named of otherwise) h = ap (λ x. cond (has_members t) (Ok (Some (K.Member (word c.source of.name)))) x) h
key-found c t (I.Numbered n) h = refl

abbrev in_context : Context → SvType → Item → Checked (Option Key)
in_context c t i = key_in c t i.key

found-by : (c : Context) (t : SvType) (i : Filled) (is : List Filled) (b : Bool) → IsFound c i.key → map (key_of c.source t) (keys_of is) ≡ map (in_context c t) (keyed (items_of is))
    → map (key_of c.source t) (cond (not b) (i.key ∷ keys_of is) (keys_of is)) ≡ map (in_context c t) (cond (not b) (item_of i ∷ keyed (items_of is)) (keyed (items_of is)))
found-by c t i is true h more = more
found-by c t i is false h more =
    ap (λ x. x ∷ map (key_of c.source t) (keys_of is)) (key-found c t i.key h) ∙ ap (λ xs. key_in c t (written i.key) ∷ xs) more

keys-found : (c : Context) (t : SvType) (is : List Filled) → AllFound c is → map (key_of c.source t) (keys_of is) ≡ map (in_context c t) (keyed (items_of is))
keys-found c t [] h = refl
keys-found c t (i ∷ is) h = found-by c t i is (is_default i.key) h.0 (keys-found c t is h.1)

pub fitted-found : (c : Context) (p : Pattern) (at : ℕ) (t : SvType) → AllFound c p.items → fitted_in c.source p at t ≡ fitted c p.tick (parts_of p) at t
fitted-found c p at t h =
    ap (λ keys. where_whole (all_of keys) (λ ks. fitted_by c.source p.tick at t (items_of p.items) (taken_by t (parts_of p) (all_keys ks)))) (keys-found c t p.items h)

pub ruleset founds = (fitted-found)
