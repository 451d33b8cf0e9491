use Rattle.std.proofs.Common.{sym, subst, arith, rules, w64}
use Rattle.std.specs.Prelude.{FitsSigned}
use Rattle.std.specs.Option.{ForSome}
use Rattle.block_summary.specs.Reading.{BufferOf}
use Rattle.cell_types.specs.Kind.{IsNumberOf}
use Rattle.std.proofs.lemmas.Int.{to_z-of_z}
use Rattle.block_summary.proofs.BufferLemmas.{all-put, free-of, none-of, view-put}
use Rattle.block_summary.proofs.buffer.CellBuffer.push.Goals as goal

pub index_mut-requires : goal.index_mut-requires
index_mut-requires c =
    let b = c.self.inside in
    let free = free-of b.kind b.nulls.items b.values.items b.len c.args.self.now c.self.view_is c.requires.room c.self.invariant.0 c.self.invariant.1 in
    omega (arith, free.lt, b.values.ok.0)

pub index_mut-requires-2 : goal.index_mut-requires-2
index_mut-requires-2 c =
    let b = c.self.inside in
    let free = free-of b.kind b.nulls.items b.values.items b.len c.args.self.now c.self.view_is c.requires.room c.self.invariant.0 c.self.invariant.1 in
    omega (arith, free.lt, free.long, b.nulls.ok.0)

pub invariant_of-self : goal.invariant_of-self
invariant_of-self c =
    let b = c.self.inside in
    let free = free-of b.kind b.nulls.items b.values.items b.len c.args.self.now c.self.view_is c.requires.room c.self.invariant.0 c.self.invariant.1 in
    let fits : FitsSigned w64 c.unwrap_or.result = search rules in
    simp to_z-of_z (all-put b.kind b.nulls.items b.values.items b.len c.args.number c.is_none.result c.unwrap_or.result (none-of c.args.number c.is_none.result c.is_none.ensures) c.unwrap_or.ensures free
    c.self.invariant.2 (subst (λ (r : BufferOf). ForSome c.args.number (IsNumberOf r.kind)) (sym c.self.view_is) c.requires.number))

pub returns : goal.returns
returns c =
    let b = c.self.inside in
    let free = free-of b.kind b.nulls.items b.values.items b.len c.args.self.now c.self.view_is c.requires.room c.self.invariant.0 c.self.invariant.1 in
    let fits : FitsSigned w64 c.unwrap_or.result = search rules in
    simp to_z-of_z (view-put b.kind b.nulls.items b.values.items b.len c.args.self.now c.args.number c.is_none.result c.unwrap_or.result (none-of c.args.number c.is_none.result c.is_none.ensures) c.unwrap_or.ensures free c.self.view_is)
