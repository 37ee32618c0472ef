-- Reasons of what is put together.
use Rattle.std.proofs.Common.{◌≡◌, List, ◌∷◌, Option, Some, None, refl, ap, ◌∙◌}
use Rattle.std.specs.Prelude.{Ok, Err}
use Rattle.expr_type.specs.Answers.{Break, or_next, reason}
use Rattle.expr_type.specs.Typings.{Checked, all_of, joined, where_whole}
use Rattle.pattern_laws.specs.Reasons.{IsWhole, Reason, followed_by}

pub whole-ok : {A : Type 0} (m : Checked A) → IsWhole m → (a : A) × (m ≡ Ok a)
whole-ok (Ok a) h = (a, refl)
whole-ok (Err b) h = absurd (cc)

pub ok-whole : {A : Type 0} (m : Checked A) (a : A) → m ≡ Ok a → IsWhole m
ok-whole (Ok b) a h = refl
ok-whole (Err b) a h = absurd (cc)

pub where-broken : {A B : Type 0} (m : Checked A) (f : A → Checked B) (b : Option Break) → reason m ≡ Some b → reason (where_whole m f) ≡ Some b
where-broken (Ok a) f b h = absurd (cc)
where-broken (Err x) f b h = h

-- what is made of something whole by a step that breaks nothing
pub where-fine : {A B : Type 0} (m : Checked A) (g : A → B) → reason (where_whole m (λ a. Ok (g a))) ≡ reason m
where-fine (Ok a) g = refl
where-fine (Err x) g = refl

pub reason-joined : {A B : Type 0} (x : Checked A) (y : Checked B) → reason (joined x y) ≡ followed_by (reason x) (reason y)
reason-joined (Ok a) (Ok b) = refl
reason-joined (Ok a) (Err y) = refl
reason-joined (Err x) (Ok b) = refl
reason-joined (Err x) (Err y) = refl

pub reason-all : {A : Type 0} (x : Checked A) (xs : List (Checked A)) → reason (all_of (x ∷ xs)) ≡ followed_by (reason x) (reason (all_of xs))
reason-all x xs = where-fine (joined x (all_of xs)) (λ p. p.0 ∷ p.1) ∙ reason-joined x (all_of xs)

pub followed-none : (r : Reason) → followed_by r None ≡ r
followed-none None = refl
followed-none (Some a) = refl

next-assoc : (a b c : Option Break) → or_next (or_next a b) c ≡ or_next a (or_next b c)
next-assoc None b c = refl
next-assoc (Some x) b c = refl

pub followed-assoc : (a b c : Reason) → followed_by (followed_by a b) c ≡ followed_by a (followed_by b c)
followed-assoc None b c = refl
followed-assoc (Some x) None c = refl
followed-assoc (Some x) (Some y) None = refl
followed-assoc (Some x) (Some y) (Some z) = ap Some (next-assoc x y z)

-- both parts of what is whole are whole
pub followed-left : (a b : Reason) → followed_by a b ≡ None → a ≡ None
followed-left None b h = refl
followed-left (Some x) None h = absurd (cc)
followed-left (Some x) (Some y) h = absurd (cc)

pub followed-right : (a b : Reason) → followed_by a b ≡ None → b ≡ None
followed-right None b h = h
followed-right (Some x) None h = refl
followed-right (Some x) (Some y) h = absurd (cc)

pub followed-whole : (a b : Reason) → a ≡ None → b ≡ None → followed_by a b ≡ None
followed-whole None b h g = g
followed-whole (Some x) b h g = absurd (cc)

pub ruleset following = (followed-assoc, followed-none)
