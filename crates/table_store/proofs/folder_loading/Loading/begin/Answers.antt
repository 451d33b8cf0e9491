use Rattle.std.proofs.Common.{◌≡◌, ◌∷◌, IfSome, length, map, refl, ap, sym, subst, ◌∙◌, arith}
use Rattle.csvw_meta.specs.Limits.{LimitsOf}
use Rattle.csvw_meta.specs.Schema.{schema_view}
use Rattle.table_store.specs.Fault.{load_cause}
use Rattle.table_store.specs.File.{IsSuchFile}
use Rattle.table_store.specs.FolderSteps.{coming_schemas, IsFolderWith}
use Rattle.table_store.specs.Loading.{IsRefusedTable}
use Rattle.table_store.specs.Steps.{LoadsTable}
use Rattle.table_store.proofs.FolderStepLemmas.{next_is, next_none, next_refused, table_begun}
use Rattle.table_store.proofs.folder_loading.Loading.begin.Goals as goal

pub returns-in-Ok-clause-goes_on : goal.returns-in-Ok-clause-goes_on
returns-in-Ok-clause-goes_on c = λ folder new begins.
    let l = c.args.self in
    let of = begins.file in
    let loads = begins.loads in
    let schema = c.in-Some.schema in
    let rest = c.pop_front.new.self.items in
    let steps : l.schemas.items ≡ schema ∷ rest = c.in-Some.ensures.items in
    let none = next_none l.table (coming_schemas l) c.requires.next in
    let here = subst (λ o. IfSome o (λ url. IsFolderWith folder new url of))
    (next_is l.table (coming_schemas l) (map schema_view rest) (schema_view schema) none (ap (map schema_view) steps)) begins.same in
    let limit : l.limits.file ≡ new.limits.file = ap (λ (limits : LimitsOf). limits.file) (loads.limits ∙ sym here.limits) in
    let begun = subst (λ n. LoadsTable n of (schema_view schema) c.in-Ok.table) limit (c.in-Ok.ensures.loads of (subst (λ n. IsSuchFile n c.args.file of) (sym limit) begins.such)) in
    table_begun folder new l _ schema rest c.in-Ok.table of steps refl (omega (arith, c.in-Some.ensures.len, loads.count, ap length steps)) none refl refl refl here begun loads

pub returns-in-Ok-clause-coming : goal.returns-in-Ok-clause-coming
returns-in-Ok-clause-coming c = (schema_view c.in-Some.schema, ap (map schema_view) c.in-Some.ensures.items)

pub returns-in-Err-clause-fault : goal.returns-in-Err-clause-fault
returns-in-Err-clause-fault c = λ folder new begins.
    let l = c.args.self in
    let of = begins.file in
    let loads = begins.loads in
    let schema = c.in-Some.schema in
    let rest = c.pop_front.new.self.items in
    let steps : l.schemas.items ≡ schema ∷ rest = c.in-Some.ensures.items in
    let cause = load_cause c.in-Err.fault in
    let none = next_none l.table (coming_schemas l) c.requires.next in
    let here = subst (λ o. IfSome o (λ url. IsFolderWith folder new url of))
    (next_is l.table (coming_schemas l) (map schema_view rest) (schema_view schema) none (ap (map schema_view) steps)) begins.same in
    let limit : l.limits.file ≡ new.limits.file = ap (λ (limits : LimitsOf). limits.file) (loads.limits ∙ sym here.limits) in
    let refused = subst (λ n. IfSome cause (IsRefusedTable n of (schema_view schema))) limit (c.in-Err.ensures.fault of (subst (λ n. IsSuchFile n c.args.file of) (sym limit) begins.such)) in
    next_refused folder new l schema rest of cause steps none here refused loads
