-- The trial skins of 01: tables and corners as they are typed there.
use Rattle.std.specs.Prelude.{List, [], ◌∷◌, ℕ, ℤ, pos, negsuc}

-- T: rows (0,1,2) (0,2,3) (0,3,1) (1,3,2)
abbrev pub T : List ℕ
T = 0 ∷ 1 ∷ 2 ∷ 0 ∷ 2 ∷ 3 ∷ 0 ∷ 3 ∷ 1 ∷ 1 ∷ 3 ∷ 2 ∷ []

-- corners (0,0,0) (300,0,0) (0,300,0) (0,0,300)
abbrev pub T_corners : List ℤ
T_corners = pos 0 ∷ pos 0 ∷ pos 0 ∷ pos 300 ∷ pos 0 ∷ pos 0 ∷ pos 0 ∷ pos 300 ∷ pos 0 ∷ pos 0 ∷ pos 0 ∷ pos 300 ∷ []

-- T with a row turned over: (2,1,0) for (0,1,2)
abbrev pub T_turned : List ℕ
T_turned = 2 ∷ 1 ∷ 0 ∷ 0 ∷ 2 ∷ 3 ∷ 0 ∷ 3 ∷ 1 ∷ 1 ∷ 3 ∷ 2 ∷ []

-- O: rows (0,1,2) (0,2,3) (0,3,4) (0,4,1) (5,2,1) (5,3,2) (5,4,3) (5,1,4)
abbrev pub O : List ℕ
O = 0 ∷ 1 ∷ 2 ∷ 0 ∷ 2 ∷ 3 ∷ 0 ∷ 3 ∷ 4 ∷ 0 ∷ 4 ∷ 1 ∷ 5 ∷ 2 ∷ 1 ∷ 5 ∷ 3 ∷ 2 ∷ 5 ∷ 4 ∷ 3 ∷ 5 ∷ 1 ∷ 4 ∷ []

-- corners (0,0,100) (100,0,0) (0,100,0) (-100,0,0) (0,-100,0) (0,0,-100); negsuc 99 is -100
abbrev pub O_corners : List ℤ
O_corners =
    pos 0 ∷ pos 0 ∷ pos 100 ∷ pos 100 ∷ pos 0 ∷ pos 0 ∷ pos 0 ∷ pos 100 ∷ pos 0 ∷ negsuc 99 ∷ pos 0 ∷ pos 0 ∷ pos 0 ∷ negsuc 99 ∷ pos 0 ∷ pos 0 ∷ pos 0 ∷ negsuc 99 ∷ []

-- M: rows (i, i+1, i+3) and (i, i+3, i+2) round at 7
abbrev pub M : List ℕ
M =
    0 ∷ 1 ∷ 3 ∷ 0 ∷ 3 ∷ 2 ∷ 1 ∷ 2 ∷ 4 ∷ 1 ∷ 4 ∷ 3 ∷ 2 ∷ 3 ∷ 5 ∷ 2 ∷ 5 ∷ 4 ∷ 3 ∷ 4 ∷ 6 ∷ 3 ∷ 6 ∷ 5 ∷ 4 ∷ 5 ∷ 0 ∷ 4 ∷ 0 ∷ 6 ∷ 5 ∷ 6 ∷ 1 ∷ 5 ∷ 1 ∷ 0 ∷ 6 ∷ 0 ∷ 2 ∷ 6 ∷ 2 ∷ 1 ∷ []

-- seven distinct corners: (i, 0, 0)
abbrev pub M_corners : List ℤ
M_corners =
    pos 0 ∷ pos 0 ∷ pos 0 ∷ pos 1 ∷ pos 0 ∷ pos 0 ∷ pos 2 ∷ pos 0 ∷ pos 0 ∷ pos 3 ∷ pos 0 ∷ pos 0 ∷ pos 4 ∷ pos 0 ∷ pos 0 ∷ pos 5 ∷ pos 0 ∷ pos 0 ∷ pos 6 ∷ pos 0 ∷ pos 0 ∷ []
