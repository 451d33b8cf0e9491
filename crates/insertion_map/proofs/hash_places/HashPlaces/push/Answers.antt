use Rattle.std.proofs.Common.{◌≡◌, ◌++◌, ◌∷◌, [], ℕ, Some, ◌-◌, cond, nat_eq, length, take, refl, ap, ◌∙◌, arith}
use Rattle.std.proofs.Math.Seq.{take-append_seam}
use Rattle.std.specs.Vec.{vec_len}
use Rattle.std.specs.Prelude.{unwrap_or}
use Rattle.insertion_map.specs.LastPlaces.{last_of}
use Rattle.insertion_map.proofs.HashLemmas.{one-more, same-places}
use Rattle.insertion_map.proofs.hash_places.HashPlaces.push.Goals as goal

pub returns-in-Ok-clause-pushed : goal.returns-in-Ok-clause-pushed
returns-in-Ok-clause-pushed c hashes are =
    let old = c.args.self.now in
    let last = ap (λ p. p.last) c.self.view_is in
    let before = ap (λ p. p.before) c.self.view_is in
    let place : c.len-count.result ≡ length old.before = c.len-count.ensures ∙ c.self.inside.before.ok.0 ∙ ap length before in
    let updates : (h : ℕ) → last_of c.put.new.self h ≡ cond (nat_eq c.args.hash h) (Some (length old.before)) (last_of old.last h) =
    λ h. c.in-Ok.ensures.put h ∙ ap (λ n. cond (nat_eq c.args.hash h) (Some n) (last_of c.self.inside.last h)) place
    ∙ ap (λ l. cond (nat_eq c.args.hash h) (Some (length old.before)) (last_of l h)) last in
    let earlier : c.unwrap_or-earlier.result ≡ unwrap_or (last_of old.last c.args.hash) (length old.before) =
    c.unwrap_or-earlier.ensures ∙ ap (λ o. unwrap_or o c.len-count.result) (c.get.ensures ∙ ap (λ l. last_of l c.args.hash) last)
    ∙ ap (unwrap_or (last_of old.last c.args.hash)) place in
    one-more old hashes are c.args.hash c.put.new.self updates _ refl
    (c.in_ok-push.ensures.items ∙ ap (λ xs. xs ++ c.unwrap_or-earlier.result ∷ []) before ∙ ap (λ x. old.before ++ x ∷ []) earlier)

pub returns-in-Err-clause-refused : goal.returns-in-Err-clause-refused
returns-in-Err-clause-refused c hashes are =
    let old = c.self.inside.before.items in
    let len : vec_len c.push.new.self - 1 ≡ length old = omega (arith, c.in_ok-push.ensures.len, c.self.inside.before.ok.0) in
    let before : c.pop-earlier.new.self.items ≡ old =
    c.pop-earlier.ensures.rest ∙ ap (λ n. take n c.push.new.self.items) len ∙ ap (take (length old)) c.in_ok-push.ensures.items ∙ take-append_seam old _ in
    same-places c.args.self.now _ hashes (λ h. c.in-Err.ensures.refused h ∙ ap (λ p. last_of p.last h) c.self.view_is) (before ∙ ap (λ p. p.before) c.self.view_is) are
