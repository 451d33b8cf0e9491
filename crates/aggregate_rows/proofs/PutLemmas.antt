-- A group is put after others, or in the place of one, in the lists of all values and of all sets.
use Rattle.std.proofs.Common.{◌≡◌, ℕ, suc, ◌+◌, ◌*◌, ◌-◌, ◌<◌, ◌≤◌, Some, List, [], ◌∷◌, ◌++◌, length, take, drop, sym, ap, ◌∙◌, arith, append_assoc, refl}
use Rattle.std.specs.Prelude.{slice_get, slice_set}
use Rattle.std.proofs.Math.Seq.{drop-append_seam}
use Rattle.std.proofs.lemmas.List.{length-append, length-drop, length-take-le, take_at}
use Rattle.std.proofs.lemmas.Option.{same_Some}
use Rattle.cell_types.specs.Value.{CellValue}
use Rattle.odata_query.specs.declared.aggregate.Aggregate.{Aggregate}
use Rattle.value_rows.specs.ValueRows.{rows_of}
use Rattle.value_rows.proofs.RowLaws.{row-at, row-inside, rows-cut, rows-long, rows-more, rows-set, take-take-le}
use Rattle.aggregate_rows.specs.declared.distinct.Distinct.{Distinct}
use Rattle.aggregate_rows.specs.Table.{group_of, groups_of, GroupOf}
use Rattle.aggregate_rows.specs.Tallies.{HasResults}
use Rattle.aggregate_rows.proofs.ListLemmas.{zip_long}
use Rattle.aggregate_rows.proofs.ResultLemmas.{IsOf}
use Rattle.aggregate_rows.proofs.TableLemmas.{group-there, groups-long, groups-more, groups-set, part_put}

-- a key and what comes after it
apart : (key : ℕ) (k results : List CellValue) (sets : List Distinct) → length k ≡ key → group_of key (k ++ results) sets ≡ record { key = k; results = results; sets = sets }
apart key k results sets long =
    rw (← long, take_at k results (length k) refl, drop-append_seam k results) refl

module _ (key width set_count count : ℕ) (values : List CellValue) (sets : List Distinct) (wide : key ≤ width) (long : count * width ≤ length values) (sets_long : count * set_count ≤ length sets) where
  abbrev pub held : List GroupOf
  held = groups_of key (rows_of width count values) (rows_of set_count count sets)

  as_many : length (rows_of width count values) ≡ length (rows_of set_count count sets)
  as_many = rows-long width count values ∙ sym (rows-long set_count count sets)

  pub held-long : length held ≡ count
  held-long = groups-long key (rows_of width count values) (rows_of set_count count sets) as_many ∙ rows-long width count values

  -- a group more
  pub pushed : (k results : List CellValue) (own : List Distinct) → length k ≡ key → length results ≡ width - key → length own ≡ set_count
      → groups_of key (rows_of width (suc count) ((take (count * width) values ++ k) ++ results)) (rows_of set_count (suc count) (take (count * set_count) sets ++ own))
      ≡ held ++ record { key = k; results = results; sets = own } ∷ []
  pushed k results own key_long results_long own_long =
      let row : rows_of width (suc count) ((take (count * width) values ++ k) ++ results) ≡ rows_of width count values ++ (k ++ results) ∷ [] =
      ap (rows_of width (suc count)) (append_assoc (take (count * width) values) k results)
      ∙ rows-more width count (take (count * width) values) (k ++ results) (length-take-le (count * width) values long) (omega (arith, length-append k results, key_long, results_long, wide))
      ∙ ap (λ rows. rows ++ (k ++ results) ∷ []) (rows-cut width count values long) in
      let set : rows_of set_count (suc count) (take (count * set_count) sets ++ own) ≡ rows_of set_count count sets ++ own ∷ [] =
      rows-more set_count count (take (count * set_count) sets) own (length-take-le (count * set_count) sets sets_long) own_long
      ∙ ap (λ rows. rows ++ own ∷ []) (rows-cut set_count count sets sets_long) in
      ap (λ rows. groups_of key rows (rows_of set_count (suc count) (take (count * set_count) sets ++ own))) row
      ∙ ap (groups_of key (rows_of width count values ++ (k ++ results) ∷ [])) set
      ∙ groups-more key (rows_of width count values) (rows_of set_count count sets) (k ++ results) own as_many
      ∙ ap (λ g. held ++ g ∷ []) (apart key k results own key_long)

  module _ (place : ℕ) (inside : place < count) where
    abbrev from : List CellValue
    from = drop (place * width) values

    fits : width ≤ length from
    fits = omega (arith, row-inside width count place inside, long, length-drop (place * width) values)

    -- the group at a place
    pub here : slice_get held place ≡ Some (group_of key (take width from) (take set_count (drop (place * set_count) sets)))
    here = rw (group-there key (rows_of width count values) (rows_of set_count count sets) place as_many (omega (arith, rows-long width count values, inside)))
        (rw (row-at width count values place inside, row-at set_count count sets place inside) refl)

    -- another one in its place, of the same key
    pub put : (results : List CellValue) (own : List Distinct) → length results ≡ width - key → length own ≡ set_count
        → groups_of key (rows_of width count (take (place * width + key) values ++ (results ++ drop (place * width + width) values)))
        (rows_of set_count count (take (place * set_count) sets ++ (own ++ drop (place * set_count + set_count) sets)))
        ≡ slice_set held place (record { key = take key (take width from); results = results; sets = own })
    put results own results_long own_long =
        let k = take key from in
        let key_long : length k ≡ key = length-take-le key from (omega (arith, fits, wide)) in
        let row_long : length (k ++ results) ≡ width = omega (arith, length-append k results, key_long, results_long, wide) in
        rw (part_put values results (place * width) key (place * width + width), rows-set width count values (k ++ results) place inside long row_long)
        (rw (rows-set set_count count sets own place inside sets_long own_long, take-take-le key width from wide)
        (groups-set key (rows_of width count values) (rows_of set_count count sets) place (k ++ results) own as_many ∙ ap (slice_set held place) (apart key k results own key_long)))

    -- it has as many results as there are aggregates
    pub results-long : (aggregates : List Aggregate) (rows : List (List CellValue)) (group : GroupOf) → slice_get held place ≡ Some group → HasResults aggregates rows group → length aggregates ≡ width - key
    results-long aggregates rows group there has =
        let same = same_Some (group_of key (take width from) (take set_count (drop (place * set_count) sets))) group (sym here ∙ there) in
        omega (arith, zip_long (IsOf rows) aggregates group.results has.results, sym (ap (λ (g : GroupOf). length g.results) same), length-drop key (take width from), length-take-le width from fits, wide)
