use Rattle.std.proofs.Common.{◌≡◌, ◌+◌, ◌<◌, ◌≤◌, Some, cond, nat_eq, length, sym, ap, subst, ◌∙◌, arith}
use Rattle.std.specs.Prelude.{◌/◌, ◌^◌}
use Rattle.std.specs.HashMap.{spare}
use Rattle.std.specs.Map.{lookup}
use Rattle.std.specs.Option.{option_or}
use Rattle.std.proofs.lemmas.Result.{on_err_weaker, on_ok_weaker}
use Rattle.insertion_map.specs.LastPlaces.{entries_at, last_of, first_room}
use Rattle.insertion_map.proofs.PartLemmas.{entries-read, put-first, put-none, put-part, room-less, room-none, room-some}
use Rattle.insertion_map.proofs.last_places.LastPlaces.put.Goals as goal

pub returns-then-takes_first-clause-put : goal.returns-then-takes_first-clause-put
returns-then-takes_first-clause-put c =
    let parts = c.self.inside.parts.items in
    let first = c.self.inside.first.entries in
    on_ok_weaker c.put_in.result
    (λ updates h.
    put-first parts first c.put_in.new.map.entries c.args.hash c.args.place (sym c.as_slice.ensures.value ∙ c.takes_first.ensures.none c.if-takes_first.true) updates.0 h
    ∙ ap (λ v. cond (nat_eq c.args.hash h) (Some c.args.place) (last_of v h)) c.self.view_is)
    c.put_in.ensures.put

pub returns-then-takes_first-clause-succeeds : goal.returns-then-takes_first-clause-succeeds
returns-then-takes_first-clause-succeeds c some =
    c.put_in.ensures.succeeds (room-some c.self.inside.parts.items (spare c.self.inside.first) (subst (λ n. 0 < n) (sym (ap (λ v. v.room) c.self.view_is)) some))

pub returns-then-takes_first-clause-room : goal.returns-then-takes_first-clause-room
returns-then-takes_first-clause-room c =
    subst (λ n. n ≤ first_room c.self.inside.parts.items (spare c.put_in.new.map) + 1) (ap (λ v. v.room) c.self.view_is)
    (room-less c.self.inside.parts.items (spare c.self.inside.first) (spare c.put_in.new.map) c.put_in.ensures.room)

pub returns-in_err-grow-clause-succeeds : goal.returns-in_err-grow-clause-succeeds
returns-in_err-grow-clause-succeeds c some =
    let none : c.args.self.now.room ≡ 0 = sym (ap (λ v. v.room) c.self.view_is) ∙ room-none c.self.inside.parts.items (spare c.self.inside.first) (λ e. c.takes_first.ensures.full c.if-takes_first.false (c.as_slice.ensures.value ∙ e)) in
    absurd (omega (arith, some, none))

pub returns-in_err-grow-clause-room : goal.returns-in_err-grow-clause-room
returns-in_err-grow-clause-room c =
    let none : c.args.self.now.room ≡ 0 = sym (ap (λ v. v.room) c.self.view_is) ∙ room-none c.self.inside.parts.items (spare c.self.inside.first) (λ e. c.takes_first.ensures.full c.if-takes_first.false (c.as_slice.ensures.value ∙ e)) in
    omega (arith, none)

pub returns-clause-put : goal.returns-clause-put
returns-clause-put c =
    let parts = c.grow.new.parts.items in
    let first = c.self.inside.first.entries in
    let part = c.part_of-part.result in
    let within : part < length parts = c.in_ok-grow.ensures.long in
    let read : entries_at parts part ≡ c.index_mut.result.now.entries = entries-read parts part c.index_mut.result.now within c.index_mut.ensures.value in
    on_ok_weaker c.put_in-2.result
    (λ updates h.
    put-part parts first part c.args.hash c.args.place c.put_in-2.new.map c.part_of-part.ensures within
    (λ q. updates.0 q ∙ ap (λ es. cond (nat_eq c.args.hash q) (Some c.args.place) (lookup (nat_eq q) es)) (sym read)) h
    ∙ ap (λ es. cond (nat_eq c.args.hash h) (Some c.args.place) (option_or (lookup (nat_eq h) es) (lookup (nat_eq h) first))) (c.grow.ensures.parts (h / 2 ^ 24))
    ∙ ap (λ v. cond (nat_eq c.args.hash h) (Some c.args.place) (last_of v h)) c.self.view_is)
    c.put_in-2.ensures.put

pub returns-clause-refused : goal.returns-clause-refused
returns-clause-refused c =
    let parts = c.grow.new.parts.items in
    let first = c.self.inside.first.entries in
    let part = c.part_of-part.result in
    let within : part < length parts = c.in_ok-grow.ensures.long in
    let read : entries_at parts part ≡ c.index_mut.result.now.entries = entries-read parts part c.index_mut.result.now within c.index_mut.ensures.value in
    on_err_weaker c.put_in-2.result
    (λ same h.
    put-none parts first part c.put_in-2.new.map within (same ∙ sym read) h
    ∙ ap (λ es. option_or (lookup (nat_eq h) es) (lookup (nat_eq h) first)) (c.grow.ensures.parts (h / 2 ^ 24))
    ∙ ap (λ v. last_of v h) c.self.view_is)
    c.put_in-2.ensures.refused

pub returns-clause-succeeds : goal.returns-clause-succeeds
returns-clause-succeeds c some =
    let none : c.args.self.now.room ≡ 0 = sym (ap (λ v. v.room) c.self.view_is) ∙ room-none c.self.inside.parts.items (spare c.self.inside.first) (λ e. c.takes_first.ensures.full c.if-takes_first.false (c.as_slice.ensures.value ∙ e)) in
    absurd (omega (arith, some, none))

pub returns-clause-room : goal.returns-clause-room
returns-clause-room c =
    let none : c.args.self.now.room ≡ 0 = sym (ap (λ v. v.room) c.self.view_is) ∙ room-none c.self.inside.parts.items (spare c.self.inside.first) (λ e. c.takes_first.ensures.full c.if-takes_first.false (c.as_slice.ensures.value ∙ e)) in
    omega (arith, none)
