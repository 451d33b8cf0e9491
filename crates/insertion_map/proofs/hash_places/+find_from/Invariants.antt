use Rattle.insertion_map.proofs.hash_places.+find_from.Given as goal

-- it goes to earlier places
abbrev pub decreases-find_from : goal.decreases-find_from
decreases-find_from g l = l.place
