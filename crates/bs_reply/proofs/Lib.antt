mod TwoValues
