-- The places of a list, from its last thing to the first one.
use Rattle.std.proofs.Common.{◌≡◌, ℕ, suc, ◌+◌, ◌<◌, nat_eq, if◌then◌else◌, List, ◌∷◌, length, drop, get_or, Option, Some, None, sym, ap, ◌∙◌, add-one, arith}
use Rattle.std.proofs.lemmas.List.{drop_more, drop_all}
use Rattle.sv_types.specs.declared.frame.SignalId.{SignalId}
use Rattle.frame_things.specs.Places.{place_from, put_place}
use Rattle.frame_things.specs.Members.{is_member, member_from, under, puts}
use Rattle.frame_things.specs.declared.members.MemberNames.{MemberNames}
use Rattle.frame_things.specs.declared.members.Slots.{Slots}

pub place-put : {T : Type 0} (number : T → ℕ) (before after : ℕ → Option ℕ) (xs : List T) (at k : ℕ) (d : T) (m : ℕ) → k + 1 ≡ at → k < length xs → d ≡ get_or xs k d → m ≡ number d
    → after ≡ put_place before m k → ((n : ℕ) → before n ≡ place_from number at n (drop at xs)) → (n : ℕ) → after n ≡ place_from number k n (drop k xs)
place-put number before after xs at k d m next within is numbered put so_far n =
    let rest : drop k xs ≡ d ∷ drop (k + 1) xs = drop_more xs k d within ∙ ap (λ x. x ∷ drop (k + 1) xs) (sym is) in
    let later : before n ≡ place_from number (suc k) n (drop (k + 1) xs) =
    so_far n ∙ ap (λ j. place_from number j n (drop j xs)) (sym next) ∙ ap (λ j. place_from number j n (drop (k + 1) xs)) (add-one k) in
    ap (λ (f : ℕ → Option ℕ). f n) put
    ∙ ap (λ j. if nat_eq j n then Some k else before n) numbered
    ∙ ap (λ o. if nat_eq (number d) n then Some k else o) later
    ∙ ap (λ ys. place_from number k n ys) (sym rest)

pub place-none : {T : Type 0} (number : T → ℕ) (xs : List T) (n : ℕ) → None ≡ place_from number (length xs) n (drop (length xs) xs)
place-none number xs n = ap (λ ys. place_from number (length xs) n ys) (sym (drop_all (length xs) xs (omega arith)))

pub member-put : (names : MemberNames) (before after : Slots) (ss : List SignalId) (at k : ℕ) (d : SignalId) → k + 1 ≡ at → k < length ss → d ≡ get_or ss k d
    → ((n : ℕ) (q : List ℕ) → under names before n q ≡ member_from at n q (drop at ss)) → puts names before after d.decl d.member k
    → (n : ℕ) (q : List ℕ) → under names after n q ≡ member_from k n q (drop k ss)
member-put names before after ss at k d next within is so_far put n q =
    let rest : drop k ss ≡ d ∷ drop (k + 1) ss = drop_more ss k d within ∙ ap (λ x. x ∷ drop (k + 1) ss) (sym is) in
    let later : under names before n q ≡ member_from (suc k) n q (drop (k + 1) ss) =
    so_far n q ∙ ap (λ j. member_from j n q (drop j ss)) (sym next) ∙ ap (λ j. member_from j n q (drop (k + 1) ss)) (add-one k) in
    put n q ∙ ap (λ o. if is_member n q d then Some k else o) later ∙ ap (λ xs. member_from k n q xs) (sym rest)

pub member-none : (ss : List SignalId) (n : ℕ) (q : List ℕ) → None ≡ member_from (length ss) n q (drop (length ss) ss)
member-none ss n q = ap (λ xs. member_from (length ss) n q xs) (sym (drop_all (length ss) ss (omega arith)))
