mod SaidLines
