-- The segments and the options of a target, read part by part.
use Rattle.std.proofs.Common.{◌≡◌, ℕ, ◌+◌, ◌<◌, true, false, ◌||◌, List, [], ◌∷◌, map, length, get_or, drop, Bor, Option, None, Result, Ok, Err, refl, sym, ap, ◌∙◌, append-nil}
use Rattle.std.specs.Prelude.{filter, String}
use Rattle.std.specs.Global.{Global}
use Rattle.std.specs.Str.{bytes_eq}
use Rattle.std.proofs.lemmas.List.{drop_more}
use Rattle.odata_url.specs.declared.option_name.OptionName.{OptionName}
use Rattle.odata_url.specs.OptionName.{option_text}
use Rattle.odata_url.specs.declared.fault.UrlFault.{UrlFault}
use Rattle.odata_url.specs.Fault.{each}
use Rattle.odata_url.specs.Escapes.{decoded_text}
use Rattle.odata_url.specs.Cuts.{in_front, behind, parts, parts_left}
use Rattle.odata_url.specs.Target.{slash, ampersand, question_mark, QueryOption, option_view, stands_among, origin_form, segments_of, has_bytes, with_part, with_parts, options_of, target_of}
use Rattle.odata_url.proofs.CutLemmas.{in_front-past, behind-past}
use Rattle.odata_url.proofs.FaultLemmas.{onto, each_fault}

-- a segment has a fault, where those before it have none
pub segments_of-fault : (path : List ℕ) (values : List (List ℕ)) (rest : Option (Bor (List ℕ))) (segment : List ℕ) (left : List (List ℕ)) (fault : UrlFault) → each decoded_text (parts slash path) ≡ onto values (each decoded_text (parts_left slash rest)) → parts_left slash rest ≡ segment ∷ left → decoded_text segment ≡ Err fault → segments_of (slash ∷ path) ≡ Err fault
unfolding segments_of
segments_of-fault path values rest segment left fault so_far next bad =
    so_far ∙ ap (λ texts. onto values (each decoded_text texts)) next ∙ each_fault decoded_text segment left values fault bad

-- all segments are read
pub segments_of-all : (path : List ℕ) (values : List (List ℕ)) (rest : Option (Bor (List ℕ))) → each decoded_text (parts slash path) ≡ onto values (each decoded_text (parts_left slash rest)) → rest ≡ None → segments_of (slash ∷ path) ≡ Ok values
unfolding segments_of
segments_of-all path values rest so_far none =
    so_far ∙ ap (λ left. onto values (each decoded_text (parts_left slash left))) none ∙ ap Ok (append-nil values)

-- a part has a fault, where those before it have none
pub options_of-fault : (query : List ℕ) (options : List QueryOption) (rest : Option (Bor (List ℕ))) (part : List ℕ) (left : List (List ℕ)) (fault : UrlFault) → with_parts [] (filter has_bytes (parts ampersand query)) ≡ with_parts options (filter has_bytes (parts_left ampersand rest)) → parts_left ampersand rest ≡ part ∷ left → has_bytes part ≡ true → with_part options part ≡ Err fault → options_of query ≡ Err fault
unfolding options_of
options_of-fault query options rest part left fault so_far next some bad =
    so_far ∙ ap (λ texts. with_parts options (filter has_bytes texts)) next ∙ rw (some, bad)

-- all parts are read
pub options_of-all : (query : List ℕ) (options : List QueryOption) (rest : Option (Bor (List ℕ))) → with_parts [] (filter has_bytes (parts ampersand query)) ≡ with_parts options (filter has_bytes (parts_left ampersand rest)) → rest ≡ None → options_of query ≡ Ok options
unfolding options_of
options_of-all query options rest so_far none =
    so_far ∙ ap (λ left. with_parts options (filter has_bytes (parts_left ampersand left))) none

-- a target that is no path
pub target_of-form : (bytes : List ℕ) (fault : UrlFault) → origin_form bytes ≡ Err fault → target_of bytes ≡ Err fault
unfolding target_of
target_of-form bytes fault bad = rw bad

path_of : (target path : List ℕ) (segments : Result (List (List ℕ)) UrlFault) → path ≡ in_front question_mark target → segments_of (slash ∷ path) ≡ segments → segments_of (in_front question_mark (slash ∷ target)) ≡ segments
path_of target path segments is read = ap segments_of (in_front-past question_mark slash target refl ∙ ap (λ text. slash ∷ text) (sym is)) ∙ read

query_of : (target query : List ℕ) (options : Result (List QueryOption) UrlFault) → query ≡ behind question_mark target → options_of query ≡ options → options_of (behind question_mark (slash ∷ target)) ≡ options
query_of target query options is read = ap options_of (behind-past question_mark slash target refl ∙ sym is) ∙ read

-- its path has a fault
pub target_of-path : (bytes target path : List ℕ) (fault : UrlFault) → origin_form bytes ≡ Ok (slash ∷ target) → path ≡ in_front question_mark target → segments_of (slash ∷ path) ≡ Err fault → target_of bytes ≡ Err fault
unfolding target_of
target_of-path bytes target path fault form is bad = rw (form, path_of target path (Err fault) is bad)

-- its query has a fault
pub target_of-query : (bytes target path query : List ℕ) (segments : List (List ℕ)) (fault : UrlFault) → origin_form bytes ≡ Ok (slash ∷ target) → path ≡ in_front question_mark target → segments_of (slash ∷ path) ≡ Ok segments → query ≡ behind question_mark target → options_of query ≡ Err fault → target_of bytes ≡ Err fault
unfolding target_of
target_of-query bytes target path query segments fault form is good query_is bad =
    rw (form, path_of target path (Ok segments) is good, query_of target query (Err fault) query_is bad)

-- all of it is read
pub target_of-all : (bytes target path query : List ℕ) (segments : List (List ℕ)) (options : List QueryOption) → origin_form bytes ≡ Ok (slash ∷ target) → path ≡ in_front question_mark target → segments_of (slash ∷ path) ≡ Ok segments → query ≡ behind question_mark target → options_of query ≡ Ok options → target_of bytes ≡ Ok (record { segments = segments; options = options })
unfolding target_of
target_of-all bytes target path query segments options form is good query_is good_options =
    rw (form, path_of target path (Ok segments) is good, query_of target query (Ok options) query_is good_options)

-- no query has no options
pub options_of-nothing : options_of [] ≡ Ok []
unfolding options_of
options_of-nothing = refl

-- the option at a place, and those after it
is_among-at : (options : List (OptionName × String Global)) (name : OptionName) (i : ℕ) (option : OptionName × String Global) → i < length options → option ≡ get_or options i option → stands_among (map option_view (drop i options)) name ≡ (bytes_eq (option_text option.0) (option_text name) || stands_among (map option_view (drop (i + 1) options)) name)
is_among-at options name i option within is =
    let next : drop i options ≡ option ∷ drop (i + 1) options = drop_more options i option within ∙ ap (λ first. first ∷ drop (i + 1) options) (sym is) in
    ap (λ left. stands_among (map option_view left) name) next

pub is_among-past : (options : List (OptionName × String Global)) (name : OptionName) (i : ℕ) (option : OptionName × String Global) → i < length options → option ≡ get_or options i option → bytes_eq (option_text option.0) (option_text name) ≡ false → stands_among (map option_view (drop i options)) name ≡ stands_among (map option_view (drop (i + 1) options)) name
is_among-past options name i option within is other = is_among-at options name i option within is ∙ rw other

pub is_among-found : (options : List (OptionName × String Global)) (name : OptionName) (i : ℕ) (option : OptionName × String Global) → i < length options → option ≡ get_or options i option → bytes_eq (option_text option.0) (option_text name) ≡ true → stands_among (map option_view (drop i options)) name ≡ true
is_among-found options name i option within is same = is_among-at options name i option within is ∙ rw same
