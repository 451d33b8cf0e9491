use Rattle.std.proofs.Common.{◌<◌, of_calls, arith, length}
use Rattle.std.proofs.lemmas.List.{length-map}
use Rattle.std.proofs.lemmas.Option.{slice_get_within}
use Rattle.aggregate_rows.specs.Gathered.{keys_held}
use Rattle.aggregate_rows.specs.Table.{key_of_group}
use Rattle.aggregate_rows.proofs.InsideLemmas.{hashed-held}
use Rattle.aggregate_rows.proofs.KeyLemmas.{found-by, key-nowhere, key-there}
use Rattle.aggregate_rows.proofs.groups.Groups.place_of.Goals as goal

pub find-requires : goal.find-requires
find-requires c =
    let hashed = hashed-held _ c.self.inside c.self.invariant c.args.self.now c.self.view_is in
    record {
      hashes = hashed.hashes;
      are = hashed.are;
      each = λ p at.
          let inside : p < length c.args.self.now.groups = omega (arith, slice_get_within hashed.hashes p c.args.hash at, hashed.as_many, length-map c.args.self.now.groups key_of_group) in
          search (of_calls, inside) parts 8;
    }

pub returns-clause-some : goal.returns-clause-some
returns-clause-some c =
    let hashed = hashed-held _ c.self.inside c.self.invariant c.args.self.now c.self.view_is in
    key-there c.values_are_ordered.ensures.equal _ c.self.inside.places (keys_held c.args.self.now) hashed c.args.key.now c.args.hash c.find.result
    (found-by _ _ _ _ _ (c.find.ensures hashed.hashes hashed.are) (λ p is post. search (of_calls, post) parts 8))

pub returns-clause-none : goal.returns-clause-none
returns-clause-none c =
    let hashed = hashed-held _ c.self.inside c.self.invariant c.args.self.now c.self.view_is in
    key-nowhere c.values_are_ordered.ensures.equal _ c.self.inside.places (keys_held c.args.self.now) hashed c.args.key.now c.args.hash c.find.result c.requires
    (found-by _ _ _ _ _ (c.find.ensures hashed.hashes hashed.are) (λ p is post. search (of_calls, post) parts 8))
