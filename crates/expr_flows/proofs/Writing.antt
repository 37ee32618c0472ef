-- Writes that are added behind others.
use Rattle.std.proofs.Common.{◌≡◌, ◌^◌, ◌<◌, Bool, List, [], ◌∷◌, ◌++◌, map, refl, ap, sym, ◌∙◌, subst, append_assoc, append-nil}
use Rattle.bit_sets.specs.declared.span.Use.{Use}
use Rattle.sv_types.specs.Surroundings as S
use Rattle.sv_types.specs.Flows.{uses_of}
use Rattle.flow_sets.specs.declared.uses.Write.{Write}
use Rattle.flow_sets.specs.Bits.{use_of, write_of, AllShort}
use Rattle.flow_sets.proofs.Positions as P
use Rattle.expr_flows.specs.Targets.{Writes}

pub none : (ws : List Write) → Writes ws ws []
none ws = record { adds = sym (append-nil ws); short = P.short-none }

pub one : (old new : List Write) (u : Use) (exact : Bool) (v : S.Use) → new ≡ old ++ record { of = u; exact = exact } ∷ [] → u ≡ use_of v → v.high < 2 ^ 32 → Writes old new (record { of = v; exact = exact } ∷ [])
one old new u exact v is same short = record { adds = is ∙ ap (λ (x : Use). old ++ record { of = x; exact = exact } ∷ []) same; short = P.short-from v [] short P.short-none }

map-both : (us vs : List S.Write) → map write_of us ++ map write_of vs ≡ map write_of (us ++ vs)
map-both [] vs = refl
map-both (u ∷ us) vs = ap (λ xs. write_of u ∷ xs) (map-both us vs)

uses-both : (us vs : List S.Write) → uses_of us ++ uses_of vs ≡ uses_of (us ++ vs)
uses-both [] vs = refl
uses-both (u ∷ us) vs = ap (λ xs. u.of ∷ xs) (uses-both us vs)

pub both : (a b c : List Write) (us vs : List S.Write) → Writes a b us → Writes b c vs → Writes a c (us ++ vs)
both a b c us vs h g = record {
  adds = g.adds ∙ ap (λ x. x ++ map write_of vs) h.adds ∙ append_assoc a (map write_of us) (map write_of vs) ∙ ap (λ x. a ++ x) (map-both us vs);
  short = subst AllShort (uses-both us vs) (P.short-append (uses_of us) (uses_of vs) h.short g.short);
}

pub at : (old new : List Write) (us vs : List S.Write) → us ≡ vs → Writes old new us → Writes old new vs
at old new us vs is h = subst (Writes old new) is h
