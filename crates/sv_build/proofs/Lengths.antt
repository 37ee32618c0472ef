-- How many tokens are left without attributes, and how many symbols they have.
use Rattle.std.proofs.Common.{◌≡◌, ◌+◌, ◌-◌, ◌≤◌, ◌<◌, ℕ, zero, suc, Bool, true, false, not, ◌&&◌, List, [], ◌∷◌, ◌++◌, length, map, take, codes, refl, sym, ap, subst, ◌∙◌, arith}
use Rattle.std.specs.Prelude.{if◌then◌else◌}
use Rattle.std.specs.Str.{bytes_eq}
use Rattle.std.proofs.lemmas.List.{length-map, length-take-le}
use Rattle.sv_source.specs.declared.token.Kind.{Kind}
use Rattle.sv_source.specs.declared.token.Kind.TheVariants as Kinds
use Rattle.sv_source.specs.declared.token.Token.{Token}
use Rattle.sv_tree.specs.Symbols.{symbol_of}
use Rattle.sv_build.specs.Attributes.{is_mark_kind, closes, opens, kept, without_attributes}
use Rattle.sv_build.specs.Reading.{is_end, Ends, symbols}
use Rattle.sv_build.proofs.Kept.{end-kept}

kept-short : (b : Bool) (ts : List Token) → length (kept b ts) ≤ length ts
kept-short b [] = omega arith
kept-short true (t ∷ ts) = (let less = kept-short (not (closes t)) ts in omega (arith, less))
kept-short false (t ∷ ts) = pick (opens t ts) (kept-short true ts) (kept-short false ts)
  where
    pick : (o : Bool) → length (kept true ts) ≤ length ts → length (kept false ts) ≤ length ts
        → length (if o then kept true ts else t ∷ kept false ts) ≤ suc (length ts)
    pick true l m = omega (arith, l)
    pick false l m = omega (arith, m)

pub few-kept : (ts : List Token) → length (without_attributes ts) ≤ length ts
few-kept ts = kept-short false ts

pub symbol-count : (ts : List Token) → length (symbols ts) ≡ length ts - 1
symbol-count ts = length-map (take (length ts - 1) ts) symbol_of ∙ length-take-le (length ts - 1) ts (omega arith)

end-no-mark : (k : Kind) → is_end k ≡ true → is_mark_kind k ≡ false
end-no-mark Kinds.End e = refl
end-no-mark _ e = cc

pub some-left : (ts : List Token) → Ends ts → 1 ≤ length (without_attributes ts)
some-left ts e =
    let open_end : closes e.last ≡ false = ap (λ (b : Bool). b && bytes_eq e.last.text (codes "*)")) (end-no-mark e.last.kind e.ends) in
    subst (λ (us : List Token). 1 ≤ length (without_attributes us)) (sym e.is) (end-kept e.before e.last open_end)
