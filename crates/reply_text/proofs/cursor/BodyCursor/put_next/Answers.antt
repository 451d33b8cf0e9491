use Rattle.std.proofs.Common.{◌≡◌, ◌+◌, ◌≤◌, ◌++◌, [], drop, get_or, length, take, sym, ap, ap₂, ◌∙◌, append_assoc, subst, arith}
use Rattle.std.specs.List.{AllByRecursion, concat}
use Rattle.reply_text.specs.declared.cursor.BodyCursor.TheInside.{Inside}
use Rattle.reply_text.specs.Pieces.{cursor_pieces, IsAtPiece}
use Rattle.reply_text.specs.Waiting.{BodyRest}
use Rattle.reply_text.proofs.BoundLemmas.{next_is, IsNext}
use Rattle.reply_text.proofs.PieceLemmas.{some_pieces}
use Rattle.reply_text.proofs.cursor.BodyCursor.put_next.Goals as goal

next_of : (body : Inside) → IsAtPiece body → (body.size ≡ 0 → ⊥) → IsNext (cursor_pieces body.pieces) body.next body.longest body.size
next_of body at some = next_is (cursor_pieces body.pieces) body.next body.longest body.size (some_pieces body.pieces) at.longest at.size some

pub put-end-requires-clause-number : goal.put-end-requires-clause-number
put-end-requires-clause-number c = let next = next_of c.self.inside c.self.invariant c.if-self-eq0.false in next.inside

pub put-end-requires-clause-room : goal.put-end-requires-clause-room
put-end-requires-clause-room c =
    let next = next_of c.self.inside c.self.invariant c.if-self-eq0.false in omega (arith, c.requires, ap (λ (r : BodyRest). r.longest) c.self.view_is, next.within)

pub returns-clause-some : goal.returns-clause-some
returns-clause-some c = λ any. let next = next_of c.self.inside c.self.invariant c.if-self-eq0.false in omega (arith, c.put-end.ensures.put.end, next.some)

pub invariant_of-self : goal.invariant_of-self
invariant_of-self c =
    let body = c.self.inside in
    let next = next_of body c.self.invariant c.if-self-eq0.false in
    let same = c.put-end.ensures.next.same in
    record {
      at = c.put-end.ensures.next.next;
      size = omega (arith, c.put-end.ensures.put.end, next.long, ap (λ l. length (concat (drop (body.next + 1) l))) same);
      longest = subst (AllByRecursion (λ piece. length piece ≤ body.longest)) (sym same) c.self.invariant.longest;
      few = omega (arith, ap length same, c.self.invariant.few);
    }

pub returns-clause-bytes : goal.returns-clause-bytes
returns-clause-bytes c =
    let body = c.self.inside in
    let pieces = cursor_pieces body.pieces in
    let next = next_of body c.self.invariant c.if-self-eq0.false in
    let front = take c.args.at c.args.out.now in
    ap₂ (λ a b. a ++ b) c.put-end.ensures.put.bytes (ap (λ l. concat (drop (body.next + 1) l)) c.put-end.ensures.next.same)
    ∙ append_assoc front (get_or pieces body.next []) (concat (drop (body.next + 1) pieces)) ∙ ap (λ l. front ++ l) (sym next.left) ∙ ap (λ (r : BodyRest). front ++ r.bytes) c.self.view_is

pub returns-clause-end : goal.returns-clause-end
returns-clause-end c =
    let body = c.self.inside in
    let next = next_of body c.self.invariant c.if-self-eq0.false in
    omega (arith, c.put-end.ensures.put.end, next.long, c.self.invariant.size, ap (λ l. length (concat (drop (body.next + 1) l))) c.put-end.ensures.next.same, ap (λ (r : BodyRest). length r.bytes) c.self.view_is)

pub returns-clause-within : goal.returns-clause-within
returns-clause-within c =
    let next = next_of c.self.inside c.self.invariant c.if-self-eq0.false in omega (arith, c.put-end.ensures.put.end, next.within, ap (λ (r : BodyRest). r.longest) c.self.view_is)
