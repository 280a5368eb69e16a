mod Fold
